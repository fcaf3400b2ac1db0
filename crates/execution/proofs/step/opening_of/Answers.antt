-- `opening_of` meets its contract: the shape of a branch is no other instruction's, and the plain run opens nothing. Assumes nothing.
use mathlib.Core.Path.{refl, sym, ap, ◌∙◌}
use Rattle.rules.specs.Rules.Instructions.{beqz}
use Rattle.descriptor.specs.Reading.{branch-shaped, other-shaped}
use Rattle.execution.proofs.Machine.{never_opens}
use Rattle.execution.proofs.step.opening_of.Goals as goal

pub returns-then-d-ne-BRANCH : goal.returns-then-d-ne-BRANCH
returns-then-d-ne-BRANCH c =
    λ p v. never_opens c.args.mode _ (other-shaped v c.if-d-ne-BRANCH.true)

pub returns-in-Plain : goal.returns-in-Plain
returns-in-Plain c = λ p v. rw c.in-Plain.is (λ code M. refl)

pub returns-in-Mispredicting : goal.returns-in-Mispredicting
returns-in-Mispredicting c =
    λ p v.
    (c.in-Mispredicting.is, branch-shaped v c.if-d-ne-BRANCH.false ∙ ap (beqz c.args.d.first) (sym c.new.ensures))
