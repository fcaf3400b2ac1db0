-- `instruction::read_jump` meets its contract, by the two answers of the reader of expressions. Assumes nothing.
use Rattle.std.proofs.lemmas.Result.{err_from_is_err_and}
use Rattle.rules.specs.Rules.JobFile.{jump}
use Rattle.instruction.proofs.read_jump.Goals as goal

pub returns-in_err-e : goal.returns-in_err-e
unfolding jump
returns-in_err-e c =
    let r = err_from_is_err_and c.from_residual.result c.from_residual.ensures.1 in
    rw (r.1, r.2) (rw (← c.read_expression.ensures.0, c.in_err-e.was), tt)

pub returns : goal.returns
unfolding jump
returns c =
    let x = c.read_expression.ensures in
    (rw (← x.0, c.in_ok-e.was), rw c.in_ok-e.was at x.1)
