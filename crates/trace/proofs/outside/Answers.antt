-- `trace::outside` meets its contract. The invariant: all that was passed is struck out. Assumes nothing.
use mathlib.Core.Path.{◌∙◌}
use native.Mathlib.Omega.{arith}
use borrow.Author.Tests.{ne_eqb, eq-eqb}
use lib.ListN.{length-drop}
use Rattle.trace.proofs.Laws.{behind, start-step}
use Rattle.trace.proofs.outside.Goals as goal

pub loop-left-preserved : goal.loop-left-preserved
loop-left-preserved c =
    let t = c.loop-left.left.now in
    let i = c.loop-left.invariant in
    let x = rw behind at c.past_rollback-left.ensures in
    let e = start-step t c.in-len2-up.len_at_least in
    let n = length-drop 2 t in
    let s = x.shorter in
    (omega arith, i.1 ∙ (rw (eq-eqb _ _ c.if-kind-ne-START.false) at e) ∙ x.same)

pub returns-then-kind-ne-START : goal.returns-then-kind-ne-START
returns-then-kind-ne-START c =
    let t = c.loop-left.left.now in
    let i = c.loop-left.invariant in
    let e = start-step t c.in-len2-up.len_at_least in
    record { shorter = i.0; same = i.1; kept = λ _. rw (ne_eqb _ _ c.if-kind-ne-START.true) at e }
