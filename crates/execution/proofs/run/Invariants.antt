-- `run` meets its contract: what is left of the run is kept until a stop is found. Assumes nothing.
use mathlib.Core.Path.{◌≡◌}
use Prim.Native.Nat.{◌-◌}
use lib.ListN.{length}
use Rattle.stepping.specs.Progress.{standing}
use Rattle.execution.specs.Running.{Ready, Settled}
use Rattle.execution.specs.Starts.{whole}
use Rattle.execution.proofs.run.Given as goal

abbrev pub invariant-loop-trace : goal.invariant-loop-trace
invariant-loop-trace l =
    (length l.work ≡ length l.initial.work) × (length l.trace ≡ length l.initial.trace) × Ready l.p l.t l.mode (standing l.work l.trace l.c)
    × Settled l.p l.t l.mode l.initial.work l.initial.trace (standing l.work l.trace l.c) (whole l.p l.t l.mode l.initial.work l.initial.trace)

abbrev pub decreases-loop-trace : goal.decreases-loop-trace
decreases-loop-trace l = l.t.budget - l.c.steps
