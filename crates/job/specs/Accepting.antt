-- Whether a parsed job file is a job, as a fact with one proof: what the type of an accepted job keeps.
-- Assumes nothing.
use Rattle.std.specs.Prelude.{Bool, true, false}
use Rattle.rules.specs.Rules.JobFile.{Parsed, accepted, rejected}

abbrev pub is_accepted : Parsed → Bool
is_accepted (accepted job) = true
is_accepted (rejected r) = false
