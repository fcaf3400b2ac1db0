-- `checker_print_text` meets its contract. Assumes nothing.
use Rattle.checker_c.proofs.Laws.{print_refused, print_returned}
use Rattle.checker_c.proofs.checker_print_text.Goals as goal

pub returns-in-Err : goal.returns-in-Err
returns-in-Err c =
    print_refused c.print_text.ensures c.in-Err.is c.from.ensures

pub returns-in-Ok : goal.returns-in-Ok
returns-in-Ok c =
    print_returned c.print_text.ensures c.in-Ok.is c.write_print.ensures
