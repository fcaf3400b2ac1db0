-- `read_conditional` meets its contract: a register and an operand, then another operand. Assumes nothing.
use Rattle.std.proofs.Common.{sym, drop, arith}
use Rattle.rules.specs.Rules.Parts.{parts}
use Rattle.rules.specs.Rules.TextReading.{whole_operand}
use Rattle.text_reader.specs.Fields.{both, register, expression, and_then, assignment_reader}
use Rattle.text_reader.proofs.Fields.{told-by, first-unread, both_told}
use Rattle.text_reader.proofs.read_conditional.Goals as goal

pub read_operand-requires : goal.read_operand-requires
read_operand-requires c = omega (arith, c.in_ok-p.ensures.size)

pub returns-in_err-p : goal.returns-in_err-p
returns-in_err-p c =
    let a = c.args in
    let ps = parts (drop a.p.at a.text.now) in
    told-by (both (both register expression) expression) a.text.now (and_then assignment_reader whole_operand ps) a.out.now a.p.to c.read_assignment.new.out (sym c.from_residual.ensures)
    (first-unread (both register expression) expression assignment_reader whole_operand a.text.now ps c.in_err-p.ensures)

pub returns : goal.returns
returns c =
    let a = c.args in
    let s = c.read_operand in
    both_told (both register expression) expression assignment_reader whole_operand a.text.now (parts (drop a.p.at a.text.now)) c.in_ok-p.ensures s.new.out s.result s.ensures
