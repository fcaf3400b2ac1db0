-- `instruction::lowered` meets its contract: a barrier leaves 0, another kind takes its entry. Assumes nothing.
use mathlib.Core.Path.{refl, sym, ◌∙◌}
use native.Mathlib.Nat.{sub-eq-zero_of_le}
use Rattle.rules.specs.Rules.Mispredicting.{remaining}
use Rattle.instruction.proofs.Laws.{remaining-other}
use Rattle.instruction.proofs.lowered.Goals.{in-Barrier, in_default}
use Rattle.instruction.proofs.lowered.Goals as goal

pub returns-then-matches : goal.returns-then-matches
unfolding remaining
returns-then-matches c = elim c.match-matches.branch [
  | in-Barrier w ↦ λ p code h. rw w.in-Barrier.is refl
  | in_default w ↦ absurd (cc)
]

pub returns-then-cost-window : goal.returns-then-cost-window
returns-then-cost-window c = elim c.match-matches.branch [
  | in-Barrier w ↦ absurd (cc)
  | in_default w ↦ λ p code h. remaining-other p _ code _ _ w.in_default.not-Barrier h
]

pub returns : goal.returns
returns c = elim c.match-matches.branch [
  | in-Barrier w ↦ absurd (cc)
  | in_default w ↦ λ p code h.
      sym (sub-eq-zero_of_le c.if-cost-window.false) ∙ remaining-other p _ code _ _ w.in_default.not-Barrier h
]
