-- `print_program` meets its contract: the length that was counted is the text's. Assumes nothing.
use Rattle.byte_writer.specs.Areas.{put_next}
use Rattle.text_printer.specs.Programs.{program_printed}
use Rattle.text_printer.proofs.Calls.{printed_short, printed-whole}
use Rattle.text_printer.proofs.print_program.Goals as goal

pub returns-then-out-length : goal.returns-then-out-length
returns-then-out-length c =
    let a = c.args in
    printed_short (program_printed a.p.now a.n) a.out.now (put_next c.put_program-length.ensures) c.if-out-length.true

pub returns : goal.returns
returns c =
    let a = c.args in
    printed-whole (program_printed a.p.now a.n) a.out.now (put_next c.put_program-length.ensures) c.if-out-length.false
    c.put_program.ensures
