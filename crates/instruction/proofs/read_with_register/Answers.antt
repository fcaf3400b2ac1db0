-- `instruction::read_with_register` meets its contract: each answer of the two readers, in the order of the rules. Assumes nothing.
use mathlib.Core.Path.{sym, ◌∙◌}
use Rattle.std.proofs.lemmas.Result.{err_from_is_err_and}
use Rattle.rules.specs.Rules.JobFile.{with_register}
use Rattle.instruction.proofs.read_with_register.Goals as goal

pub returns-in_err-r : goal.returns-in_err-r
unfolding with_register
returns-in_err-r g c = λ f m.
    let r = err_from_is_err_and c.from_residual.result c.from_residual.ensures.1 in
    rw (r.1, r.2) (rw (← c.read_register.ensures, c.in_err-r.was), tt)

pub returns-in_err-e : goal.returns-in_err-e
unfolding with_register
returns-in_err-e g c = λ f m.
    let k = c.from_residual-in_err-e in
    let r = err_from_is_err_and k.result k.ensures.1 in
    rw (r.1, r.2) (rw (← c.read_register.ensures, c.in_ok-r.was, ← c.read_expression.ensures.0, c.in_err-e.was), tt)

pub returns : goal.returns
unfolding with_register
returns g c = λ f m.
    let x = c.read_expression.ensures in
    let k = m.means _ _ _ c.make.ensures in (
      rw (← c.read_register.ensures, c.in_ok-r.was, ← x.0, c.in_ok-e.was) (rw k),
      rw k ((rw c.in_ok-e.was at x.1) ∙ sym (m.tested _ _)),
    )
