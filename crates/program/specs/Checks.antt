-- The answer of this crate's tests for what the rules read: the offset after it, or the refusal.
-- Assumes nothing.
use Rattle.std.specs.Prelude.{ℕ, Result, Ok, Err}
use Rattle.rules.specs.declared.Refusal.{Refusal}
use Rattle.rules.specs.Rules.JobFile.{Read, got, refused}

abbrev pub checked_of : {A : Type 0} → Read A → Result ℕ Refusal
checked_of (got a q) = Ok q
checked_of (refused r) = Err r
