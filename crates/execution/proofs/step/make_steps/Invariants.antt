-- `make_steps` meets its contract: each step is the rules', and may be made; a store that cannot be made ends them. Assumes nothing.
use mathlib.Core.Path.{◌≡◌}
use Prim.Native.Nat.{◌-◌}
use lib.ListN.{length}
use Rattle.stepping.specs.Progress.{standing}
use Rattle.execution.proofs.Running.{Stepping}
use Rattle.execution.proofs.step.make_steps.Given as goal

abbrev pub invariant-loop-c : goal.invariant-loop-c
invariant-loop-c l =
    (length l.work ≡ length l.initial.work) × (length l.trace ≡ length l.initial.trace) × Stepping l.p l.t l.mode l.until (standing l.initial.work l.initial.trace l.initial.c) (standing l.work l.trace l.c)

abbrev pub decreases-loop-c : goal.decreases-loop-c
decreases-loop-c l = l.until - l.c.steps
