-- `find` meets its contract. The invariant: the number is that among the entries that are left, after those passed. Assumes nothing.
use mathlib.Core.Path.{◌≡◌}
use Prim.Native.Nat.{◌+◌, ◌-◌}
use Rattle.rules.specs.Rules.Changes.{position}
use Rattle.work.specs.Machines.{entries_from, table_in}
use Rattle.outside.proofs.find.Given as goal

abbrev pub invariant-loop-i : goal.invariant-loop-i
invariant-loop-i l = l.i + position (entries_from l.work l.i (l.count - l.i)) l.a.0 ≡ position (table_in l.work) l.a.0
