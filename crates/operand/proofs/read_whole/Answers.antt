-- `read_whole` meets its contract. Assumes nothing.
use Rattle.std.proofs.Common.{subst, sym, drop}
use Rattle.rules.specs.Rules.Parts.{parts}
use Rattle.operand.specs.Operands.{WholeTold}
use Rattle.operand.proofs.Counted.{whole-nothing, whole-brought}
use Rattle.operand.proofs.read_whole.Goals as goal

pub returns-in_err-p : goal.returns-in_err-p
returns-in_err-p c =
    let a = c.args in
    subst (WholeTold a.text.now a.at a.out.now a.to c.read_operand.new.out) (sym c.from_residual.ensures)
    (whole-nothing (parts (drop a.at a.text.now)) c.in_err-p.ensures)

pub returns : goal.returns
returns c =
    let a = c.args in whole-brought a.text.now a.at a.to c.in_ok-p.ensures c.put_byte.ensures
