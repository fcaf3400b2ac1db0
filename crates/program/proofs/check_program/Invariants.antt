-- `program::check_program` meets its contract. The invariant: checking the instructions left is checking the whole program.
-- Assumes nothing.
use Rattle.rules.specs.Rules.JobFile.{program}
use mathlib.Core.Path.{◌≡◌}
use Prim.Native.Nat.{◌-◌}
use Rattle.program.specs.Checks.{checked_of}
use Rattle.program.proofs.check_program.Given as goal

abbrev pub invariant-loop-label : goal.invariant-loop-label
invariant-loop-label l = checked_of (program l.n (l.n - l.label) l.label l.p l.at) ≡ checked_of (program l.n l.n 0 l.p 0)
