-- `store_costs` meets its contract. The invariant: storing the entries that are left gives what storing the table gives. Assumes nothing.
use mathlib.Core.Path.{◌≡◌}
use Prim.Native.Nat.{◌+◌}
use lib.ListN.{drop}
use lib.Seq.{sets}
use Rattle.work.specs.Layout.{cost_base}
use Rattle.work.proofs.store_costs.Given as goal

abbrev pub invariant-loop-k : goal.invariant-loop-k
invariant-loop-k l = sets l.work (cost_base + l.k) (drop l.k l.costs) ≡ sets l.initial.work cost_base l.costs
