-- `LocationSet::first_from` meets its contract. The invariant: the locations passed are not in the set. Assumes nothing.
use Prim.Native.Nat.{◌-◌, ◌≤◌}
use Rattle.location.specs.Sets.{limit}
use Rattle.location.specs.Members.{NoneFrom}
use Rattle.location.proofs.LocationSet.first_from.Given as goal

abbrev pub invariant-loop-at : goal.invariant-loop-at
invariant-loop-at l = (l.initial.l ≤ l.at) × NoneFrom l.self l.initial.l l.at

abbrev pub decreases-loop-at : goal.decreases-loop-at
decreases-loop-at l = limit - l.at
