-- `read_assignment` meets its contract: a register, then an operand. Assumes nothing.
use Rattle.std.proofs.Common.{sym, drop, arith}
use Rattle.rules.specs.Rules.Parts.{parts}
use Rattle.rules.specs.Rules.TextReading.{by_name, register_named, whole_operand}
use Rattle.text_reader.specs.Fields.{both, register, expression, and_then}
use Rattle.text_reader.proofs.Fields.{told-by, first-unread, both_told}
use Rattle.text_reader.proofs.read_assignment.Goals as goal

pub read_operand-requires : goal.read_operand-requires
read_operand-requires c = omega (arith, c.in_ok-p.ensures.size)

pub returns-in_err-p : goal.returns-in_err-p
returns-in_err-p c =
    let a = c.args in
    let ps = parts (drop a.p.at a.text.now) in
    told-by (both register expression) a.text.now (and_then (by_name register_named) whole_operand ps) a.out.now a.p.to c.read_register.new.out (sym c.from_residual.ensures)
    (first-unread register expression (by_name register_named) whole_operand a.text.now ps c.in_err-p.ensures)

pub returns : goal.returns
returns c =
    let a = c.args in
    let s = c.read_operand in
    both_told register expression (by_name register_named) whole_operand a.text.now (parts (drop a.p.at a.text.now)) c.in_ok-p.ensures s.new.out s.result s.ensures
