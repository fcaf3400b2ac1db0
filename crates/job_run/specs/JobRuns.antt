-- One of the two runs of an accepted job by a table of costs: with a state that stands somewhere in some bytes, and with its own in lent
-- areas.
-- Assumes nothing.
use Rattle.std.specs.Prelude.{◌≡◌, List, ℕ, ◌+◌, ◌*◌, ◌≤◌, length, take, drop, replicate}
use Rattle.location.specs.Sets.{limit}
use Rattle.rules.specs.declared.Trailer.{Trailer}
use Rattle.rules.specs.Rules.Firsts.{firsts_of}
use Rattle.rules.specs.Rules.Runs.{Job, Result, mispredicting_run, plain_run}
use Rattle.rules.specs.Rules.JobFile.{accepted, parse, locations, words_at}
use Rattle.rules.specs.Rules.Costs.{costs_fit, with_costs}
use Rattle.rules.specs.Rules.Calls.{Areas, lent, table_size, working_words, room, written, areas_after}
use Rattle.rules.specs.Rules.Pairs.{with_state}
use Rattle.job.specs.declared.accepted.AcceptedJob.{AcceptedJob}
use Rattle.window_costs.specs.declared.table.WindowCosts.{WindowCosts}
use Rattle.firsts.specs.Reports.{reports_in}
use Rattle.execution.specs.declared.Mode.{Mode}
use Rattle.execution.specs.declared.Mode.TheVariants as modes
use Rattle.execution.specs.declared.Ran.{Ran}
use Rattle.execution.specs.Running.{Loaded, Reports, EndsAs, RanTo}
use Rattle.execution.specs.Starts.{whole}

-- the rules' run of a job in each of the two modes
abbrev pub result_of : Mode → Job → ℕ → Result
result_of modes.Plain job k = plain_run job k
result_of modes.Mispredicting job k = mispredicting_run job k

-- The bytes have a state of the job's size at the offset, and the working area is long enough.
pub record Runnable (job : AcceptedJob) (states : List ℕ) (at : ℕ) (w : List ℕ) : Type 0 where
  pub state : at + 8 * locations job.trailer ≤ length states
  pub room : working_words ≤ length w

-- The run of the job with that table and state, as it has ended; the words past the working area stay.
pub record RunOf (bs : List ℕ) (t : Trailer) (mode : Mode) (costs states : List ℕ) (at : ℕ) (w w' a a' : List ℕ) (r : Ran) : Type 0 where
  pub ran : (job : Job) → parse bs ≡ accepted job
      → EndsAs t a w' a' r (result_of mode (with_state (with_costs job costs) (words_at (locations t) states at)) (room a))
  pub past : drop working_words w' ≡ drop working_words w
  pub size : length w' ≡ length w

-- What loading that state, the table and the program leaves, in the words w₁ that were w: a run can be made from the words, over the program's
-- bytes p, and any run made from them is the job's with that table and state.
pub record LoadedFor (bs : List ℕ) (t : Trailer) (costs states : List ℕ) (at : ℕ) (w w₁ : List ℕ) : Type 0 where
  pub ready : (p : List ℕ) → p ≡ take t.state bs → Loaded p t w₁ × (working_words ≤ length w₁)
  pub runs : (mode : Mode) (p w' a a' : List ℕ) (r : Ran) → p ≡ take t.state bs → RanTo t w₁ a w' a' r (whole p t mode w₁ a)
      → RunOf bs t mode costs states at w w' a a' r

-- Neither area is too short.
pub record AreasFit (job : AcceptedJob) (ends w : List ℕ) : Type 0 where
  pub work : working_words ≤ length w
  pub end : locations job.trailer + table_size ≤ length ends

-- the areas with the working words 0
abbrev pub cleared : Areas → Areas
cleared a = lent a.trace a.end (written (replicate working_words 0) a.work)

-- The run of the job with the table, as it has ended: once the working words are cleared, every area is as the rules leave it; until then they tell which
-- observation brought each location in.
pub record RunIn (bs : List ℕ) (t : Trailer) (mode : Mode) (costs : List ℕ) (before after : Areas) (r : Ran) : Type 0 where
  pub reports : (job : Job) → parse bs ≡ accepted job → Reports r (result_of mode (with_costs job costs) (room before.trace))
  pub firsts : (job : Job) → parse bs ≡ accepted job
      → reports_in after.work r.full 0 limit ≡ firsts_of (result_of mode (with_costs job costs) (room before.trace)).gathered.sets
  pub areas : (job : Job) → parse bs ≡ accepted job → cleared after ≡ areas_after (result_of mode (with_costs job costs) (room before.trace)) before
  pub work : working_words ≤ length after.work

-- ---- the same, of a job and a table as the code has them
abbrev pub LoadedFrom : AcceptedJob → WindowCosts → List ℕ → ℕ → List ℕ → List ℕ → Type 0
LoadedFrom job costs = LoadedFor job.bytes.now job.trailer costs.entries.now

abbrev pub RunFrom : AcceptedJob → Mode → WindowCosts → List ℕ → ℕ → List ℕ → List ℕ → List ℕ → List ℕ → Ran → Type 0
RunFrom job mode costs = RunOf job.bytes.now job.trailer mode costs.entries.now

abbrev pub RunInAreas : AcceptedJob → Mode → WindowCosts → Areas → Areas → Ran → Type 0
RunInAreas job mode costs = RunIn job.bytes.now job.trailer mode costs.entries.now
