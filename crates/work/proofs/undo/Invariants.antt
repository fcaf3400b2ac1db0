-- `undo` meets its contract. The invariant: undoing what is left gives what undoing all gives at first, and the log is as it was. Assumes nothing.
use mathlib.Core.Path.{◌≡◌}
use Prim.Native.Nat.{◌-◌}
use lib.ListN.{drop}
use Rattle.work.specs.Layout.{log_base}
use Rattle.work.specs.Words.{undone}
use Rattle.work.proofs.undo.Given as goal

abbrev pub invariant-loop-k : goal.invariant-loop-k
invariant-loop-k l =
    (undone l.work l.k (l.k - l.mark) ≡ undone l.initial.work l.count (l.count - l.mark)) × (drop log_base l.work ≡ drop log_base l.initial.work)
