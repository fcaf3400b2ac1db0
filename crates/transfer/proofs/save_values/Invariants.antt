-- `transfer::save_values` meets its contract. The invariant: storing the values left gives what storing all of them gives.
-- Assumes nothing.
use mathlib.Core.Path.{◌≡◌}
use Prim.Native.Nat.{◌-◌}
use lib.Seq.{sets}
use Rattle.rules.specs.Rules.Plain.{values}
use Rattle.work.specs.Machines.{locations_from}
use Rattle.transfer.proofs.save_values.Given as goal

abbrev pub invariant-loop-saved : goal.invariant-loop-saved
invariant-loop-saved l =
    sets l.area l.saved (values (locations_from l.work l.saved (l.n - l.saved))) ≡ sets l.initial.area 0 (values (locations_from l.work 0 l.n))
