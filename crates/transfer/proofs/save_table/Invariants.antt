-- `transfer::save_table` meets its contract. The invariant: storing the words of the entries left gives what storing the whole table gives.
-- Assumes nothing.
use mathlib.Core.Path.{◌≡◌}
use Prim.Native.Nat.{◌+◌, ◌*◌}
use lib.Seq.{sets}
use Rattle.transfer.proofs.Laws.{entries_left}
use Rattle.transfer.proofs.save_table.Given as goal

abbrev pub invariant-loop-i : goal.invariant-loop-i
invariant-loop-i l =
    sets l.area (l.n + 1 + 2 * l.i) (entries_left l.work l.i) ≡ sets l.initial.area (l.n + 1 + 2 * 0) (entries_left l.work 0)
