-- `trace::past_rollback` meets its contract. The invariant: none of the observations passed closes the branch, so what is struck
-- out of what is left is what is struck out of the whole. Assumes nothing.
use mathlib.Core.Path.{◌≡◌}
use Prim.Native.Nat.{◌≤◌}
use lib.ListN.{length}
use Rattle.trace.specs.Struck.{struck_to}
use Rattle.trace.proofs.past_rollback.Given as goal

abbrev pub invariant-loop-left : goal.invariant-loop-left
invariant-loop-left l = (length l.left ≤ length l.t) × (struck_to l.t l.id ≡ struck_to l.left l.id)

abbrev pub decreases-loop-left : goal.decreases-loop-left
decreases-loop-left l = length l.left
