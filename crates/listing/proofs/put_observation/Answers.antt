-- `put_observation` meets its contract: END is written for the number of instructions. Assumes nothing.
use mathlib.Core.Path.{◌≡◌}
use Rattle.rules.specs.Rules.Answers.{text}
use Rattle.rules.specs.Rules.Instructions.{pc_kind}
use Rattle.listing.proofs.Texts.{observation_end, observation-number}
use Rattle.listing.proofs.put_observation.Goals.{else-kind-eq-PC-via-then-kind-eq-PC+else-value-n, else-kind-eq-PC-via-else-kind-eq-PC}
use Rattle.listing.proofs.put_observation.Goals as goal

pub put_line-requires : goal.put_line-requires
unfolding text
put_line-requires c =
    let a = c.args in
    rw (observation_end a.n a.kind a.value c.if-kind-eq-PC.true c.if-value-n.true, ← c.kind_text.ensures) at c.requires

pub returns-then-value-n : goal.returns-then-value-n
unfolding text
returns-then-value-n c =
    let a = c.args in
    rw (observation_end a.n a.kind a.value c.if-kind-eq-PC.true c.if-value-n.true, ← c.kind_text.ensures) c.put_line.ensures

pub put_number_line-requires : goal.put_number_line-requires
put_number_line-requires c =
    let a = c.args in
    let other : a.kind ≡ pc_kind → a.value ≡ a.n → ⊥ =
    elim c.else-kind-eq-PC.branch [
      | else-kind-eq-PC-via-then-kind-eq-PC+else-value-n w ↦ λ e f. w.if-value-n.false f
      | else-kind-eq-PC-via-else-kind-eq-PC w ↦ λ e f. w.if-kind-eq-PC.false e
    ] in
    rw (observation-number a.n a.kind a.value other, ← c.kind_text-else-kind-eq-PC.ensures) at c.requires

pub returns-else-kind-eq-PC : goal.returns-else-kind-eq-PC
returns-else-kind-eq-PC c =
    let a = c.args in
    let other : a.kind ≡ pc_kind → a.value ≡ a.n → ⊥ =
    elim c.else-kind-eq-PC.branch [
      | else-kind-eq-PC-via-then-kind-eq-PC+else-value-n w ↦ λ e f. w.if-value-n.false f
      | else-kind-eq-PC-via-else-kind-eq-PC w ↦ λ e f. w.if-kind-eq-PC.false e
    ] in
    rw (observation-number a.n a.kind a.value other, ← c.kind_text-else-kind-eq-PC.ensures) c.put_number_line.ensures
