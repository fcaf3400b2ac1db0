-- `instruction::read_conditional` meets its contract: each answer of the three readers, in the order of the rules. Assumes nothing.
use mathlib.Core.Path.{ap₂}
use mathlib.Core.Bool.{Bool, ◌&&◌}
use Rattle.std.proofs.lemmas.Result.{err_from_is_err_and}
use Rattle.rules.specs.Rules.JobFile.{conditional}
use Rattle.instruction.proofs.read_conditional.Goals as goal

pub returns-in_err-r : goal.returns-in_err-r
unfolding conditional
returns-in_err-r c =
    let r = err_from_is_err_and c.from_residual.result c.from_residual.ensures.1 in
    rw (r.1, r.2) (rw (← c.read_register.ensures, c.in_err-r.was), tt)

pub returns-in_err-c : goal.returns-in_err-c
unfolding conditional
returns-in_err-c c =
    let f = c.from_residual-in_err-c in
    let r = err_from_is_err_and f.result f.ensures.1 in
    rw (r.1, r.2) (rw (← c.read_register.ensures, c.in_ok-r.was, ← c.read_expression.ensures.0, c.in_err-c.was), tt)

pub returns-in_err-e : goal.returns-in_err-e
unfolding conditional
returns-in_err-e c =
    let f = c.from_residual-in_err-e in
    let r = err_from_is_err_and f.result f.ensures.1 in
    rw (r.1, r.2)
    (rw (← c.read_register.ensures, c.in_ok-r.was, ← c.read_expression.ensures.0, c.in_ok-c.was, ← c.read_expression-2.ensures.0, c.in_err-e.was), tt)

pub returns : goal.returns
unfolding conditional
returns c =
    let x = c.read_expression.ensures in
    let y = c.read_expression-2.ensures in (
      rw (← c.read_register.ensures, c.in_ok-r.was, ← x.0, c.in_ok-c.was, ← y.0, c.in_ok-e.was),
      ap₂ (λ (a b : Bool). a && b) (rw c.in_ok-c.was at x.1) (rw c.in_ok-e.was at y.1),
    )
