-- What printing a run leaves in the lent areas: the rules' listing, with the room that the trace area has.
-- Assumes nothing.
use Rattle.std.specs.Prelude.{◌≡◌, List, ℕ, ◌≤◌, length, take}
use Rattle.rules.specs.Rules.Plain.{end_place}
use Rattle.rules.specs.Rules.Runs.{mispredicting_run}
use Rattle.rules.specs.Rules.JobFile.{Parsed, accepted, rejected, parse}
use Rattle.rules.specs.Rules.Calls.{trace_words, room, written}
use Rattle.rules.specs.Rules.Listing.{listing_of, listing}
use Rattle.byte_writer.specs.Writing.{Put}

-- the number of instructions of an accepted job
abbrev pub instruction_count : Parsed → ℕ
instruction_count (rejected r) = 0
instruction_count (accepted job) = end_place job.code

-- the trace area after the run: "written observations stand from the front", all other words keep their contents
unfoldable pub trace_after : Parsed → List ℕ → List ℕ
trace_after (rejected r) trace = trace
trace_after (accepted job) trace = written (trace_words (mispredicting_run job (room trace)).gathered.trace) trace

-- a run printed: its trace area, and its lines from the front of an area of bytes as far as they fit, with their length
pub record Prints (job trace trace' out out' : List ℕ) (r : ℕ) : Type 0 where
  pub traced : trace' ≡ trace_after (parse job) trace
  pub lines : Put out 0 (listing_of (room trace) (parse job)) out' r

-- the rules' listing stands at the front of the area, all other bytes keep their contents, and r is its length
pub record Listed (job out out' : List ℕ) (r : ℕ) : Type 0 where
  pub area : out' ≡ written (listing job) out
  pub size : r ≡ length (listing job)
  pub fits : r ≤ length out'
  pub part : r ≡ length (take r out')
