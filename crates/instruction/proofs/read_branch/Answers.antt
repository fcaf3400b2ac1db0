-- `instruction::read_branch` meets its contract, by each answer of the two readers, in the order of the rules. Assumes nothing.
use mathlib.Core.Path.{refl}
use Rattle.std.proofs.lemmas.Result.{err_from_is_err_and}
use Rattle.rules.specs.Rules.JobFile.{branch}
use Rattle.instruction.proofs.read_branch.Goals as goal

pub returns-in_err-r : goal.returns-in_err-r
unfolding branch
returns-in_err-r c =
    let r = err_from_is_err_and c.from_residual.result c.from_residual.ensures.1 in
    rw (r.1, r.2) (rw (← c.read_register.ensures, c.in_err-r.was), tt)

pub returns-in_err-label : goal.returns-in_err-label
unfolding branch
returns-in_err-label c =
    let f = c.from_residual-in_err-label in
    let r = err_from_is_err_and f.result f.ensures.1 in
    rw (r.1, r.2) (rw (← c.read_register.ensures, c.in_ok-r.was, ← c.read_label.ensures, c.in_err-label.was), tt)

pub returns : goal.returns
unfolding branch
returns c = (rw (← c.read_register.ensures, c.in_ok-r.was, ← c.read_label.ensures, c.in_ok-label.was), refl)
