-- `trace::past_rollback` meets its contract. The invariant: none of the observations passed closes the branch, so what is struck
-- out of what is left is what is struck out of the whole. Assumes nothing.
use mathlib.Core.Path.{◌∙◌}
use native.Mathlib.Omega.{arith}
use borrow.Author.Tests.{ne_eqb, eq-eqb}
use lib.ListN.{length-drop}
use Rattle.trace.proofs.Laws.{behind, closes-step, none-left_to}
use Rattle.trace.proofs.past_rollback.Goals.{else-kind-eq-ROLLBACK-via-then-kind-eq-ROLLBACK+else-value-id, else-kind-eq-ROLLBACK-via-else-kind-eq-ROLLBACK}
use Rattle.trace.proofs.past_rollback.Goals as goal

pub loop-left-preserved : goal.loop-left-preserved
loop-left-preserved c =
    let t = c.loop-left.left.now in
    let id = c.args.id in
    let i = c.loop-left.invariant in
    let e = closes-step t id c.in-len2-up.len_at_least in
    let n = length-drop 2 t in
    rw behind (
      omega arith,
      i.1
          ∙ elim c.else-kind-eq-ROLLBACK.branch [
            | else-kind-eq-ROLLBACK-via-then-kind-eq-ROLLBACK+else-value-id w ↦ rw (eq-eqb _ _ w.if-kind-eq-ROLLBACK.true, ne_eqb _ _ w.if-value-id.false) at e
            | else-kind-eq-ROLLBACK-via-else-kind-eq-ROLLBACK w ↦ rw (ne_eqb _ _ w.if-kind-eq-ROLLBACK.false) at e
          ],
    )

pub returns-then-value-id : goal.returns-then-value-id
returns-then-value-id c =
    let t = c.loop-left.left.now in
    let i = c.loop-left.invariant in
    let e = closes-step t c.args.id c.in-len2-up.len_at_least in
    let n = length-drop 2 t in
    rw behind
    record { shorter = omega arith; same = i.1 ∙ rw (eq-eqb _ _ c.if-kind-eq-ROLLBACK.true, eq-eqb _ _ c.if-value-id.true) at e }

pub returns-in_default : goal.returns-in_default
returns-in_default c =
    let i = c.loop-left.invariant in
    record { shorter = i.0; same = i.1 ∙ none-left_to c.loop-left.left.now c.args.id c.in_default.len_below }
