-- `trace::same_struck` meets its contract. The invariant: both traces stand at an observation that is not struck out, and those
-- passed are equal, so the answer is that of the observations left. Assumes nothing.
use mathlib.Core.Path.{sym, ap₂, ◌∙◌}
use native.Mathlib.Omega.{arith}
use borrow.Author.Tests.{ne_eqb, eq-eqb}
use lib.ListN.{length-drop}
use Rattle.rules.specs.Rules.Pairs.{same_words}
use Rattle.trace.proofs.Laws.{behind, settled, struck-step, second_ended, first_ended}
use Rattle.trace.proofs.same_struck.Goals.{then-kind-other_kind-via-then-kind-other_kind, then-kind-other_kind-via-else-kind-other_kind+then-value-other_value}
use Rattle.trace.proofs.same_struck.Goals as goal

pub loop-one-init : goal.loop-one-init
loop-one-init c =
    let x = c.outside-one.ensures in
    let y = c.outside-other.ensures in
    (settled x, settled y, ap₂ same_words (sym x.same) (sym y.same))

pub returns-in_default-other : goal.returns-in_default-other
returns-in_default-other c =
    let v = c.loop-one in
    sym (second_ended v.one.now v.other.now v.invariant.0 c.in-len2-up.len_at_least c.in_default-other.len_below) ∙ v.invariant.2

pub returns-then-kind-other_kind : goal.returns-then-kind-other_kind
returns-then-kind-other_kind c =
    let v = c.loop-one in
    let e = struck-step v.one.now v.other.now v.invariant.0 v.invariant.1 c.in-len2-up.len_at_least c.in-len2-up-other.len_at_least in
    sym (elim c.then-kind-other_kind.branch [
      | then-kind-other_kind-via-then-kind-other_kind w ↦ rw (ne_eqb _ _ w.if-kind-other_kind.true) at e
      | then-kind-other_kind-via-else-kind-other_kind+then-value-other_value w ↦
          rw (eq-eqb _ _ w.if-kind-other_kind.false, ne_eqb _ _ w.if-value-other_value.true) at e
    ])
    ∙ v.invariant.2

pub loop-one-smaller : goal.loop-one-smaller
loop-one-smaller c =
    let t = c.loop-one.one.now in
    let n = length-drop 2 t in
    let x = rw behind at c.outside-one-in-len2-up.ensures in
    let s = x.shorter in
    omega arith

pub loop-one-preserved : goal.loop-one-preserved
loop-one-preserved c =
    let v = c.loop-one in
    let e = struck-step v.one.now v.other.now v.invariant.0 v.invariant.1 c.in-len2-up.len_at_least c.in-len2-up-other.len_at_least in
    let x = rw behind at c.outside-one-in-len2-up.ensures in
    let y = rw behind at c.outside-other-in-len2-up.ensures in
    let g = rw (eq-eqb _ _ c.if-kind-other_kind.false, eq-eqb _ _ c.if-value-other_value.false) at e in
    (settled x, settled y, ap₂ same_words (sym x.same) (sym y.same) ∙ sym g ∙ v.invariant.2)

pub returns : goal.returns
returns c =
    let v = c.loop-one in
    first_ended v.one.now v.other.now v.invariant.1 (omega arith) ∙ v.invariant.2
