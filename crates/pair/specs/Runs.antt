-- What the pair's code asks and gives: the job's own run, the run with a second state, and the word on them.
-- Assumes nothing.
use Rattle.std.specs.Prelude.{◌≡◌, List, ℕ, ◌*◌, ◌≤◌, length, take, replicate}
use Rattle.rules.specs.declared.Counts.{Counts}
use Rattle.rules.specs.declared.PairWord.{PairWord}
use Rattle.rules.specs.Rules.Runs.{Job, Result, mispredicting_run}
use Rattle.rules.specs.Rules.JobFile.{accepted, parse, locations, words_at}
use Rattle.rules.specs.Rules.Costs.{with_costs}
use Rattle.rules.specs.Rules.Calls.{trace_words, room, working_words, written, counts}
use Rattle.rules.specs.Rules.Pairs.{with_state, alike_from, pair_word}
use Rattle.judgement.specs.Words.{pair_word_of}
use Rattle.window_costs.specs.declared.table.WindowCosts.{WindowCosts}
use Rattle.job.specs.declared.accepted.AcceptedJob.{AcceptedJob}
use Rattle.execution.specs.declared.Mode.TheVariants as modes
use Rattle.execution.specs.declared.Ran.{Ran}
use Rattle.job_run.specs.JobRuns.{RunFrom}
use Rattle.pair.specs.declared.SecondRun.{SecondRun}

-- The second state has the job's size, and each trace area is at least as long as what was written there.
pub record BothRan (j : AcceptedJob) (second : List ℕ) (c c' : Counts) (a b : List ℕ) : Type 0 where
  pub sized : length second ≡ 8 * locations j.trailer
  pub first_fits : 2 * c.observations ≤ length a
  pub second_fits : 2 * c'.observations ≤ length b

-- the word on two runs, by the job's public list
abbrev pub word_on : AcceptedJob → List ℕ → Counts → Counts → List ℕ → List ℕ → PairWord
word_on j second c c' a b =
    let n = locations j.trailer in
    pair_word_of (alike_from j.public 0 (words_at n j.bytes.now j.trailer.state) (words_at n second 0)) c.stop c'.stop
    (take (2 * c.observations) a) (take (2 * c'.observations) b)

-- The areas are not refused.
pub record Ready (a b w : List ℕ) : Type 0 where
  pub work : working_words ≤ length w
  pub traces : length a ≡ length b

-- nor is the second state
pub record Comparable (j : AcceptedJob) (second a b w : List ℕ) : Type 0 where
  pub ready : Ready a b w
  pub sized : length second ≡ 8 * locations j.trailer

-- ---- the two runs, one after the other
-- the job's own run by the table, as it has ended
abbrev pub OwnRunOf : AcceptedJob → WindowCosts → List ℕ → List ℕ → List ℕ → List ℕ → Ran → Type 0
OwnRunOf j costs w w' a a' r = RunFrom j modes.Mispredicting costs j.bytes.now j.trailer.state w w' a a' r

-- what a mispredicting run r leaves: its counts, and its trace from the front of the area
pub record LeftBy (r : Result) (c : Counts) (a : List ℕ) : Type 0 where
  pub counts : c ≡ counts r
  pub trace : take (2 * c.observations) a ≡ trace_words r.gathered.trace

-- the job's own run by the table has been made in an area of that length
pub record OwnRan (j : AcceptedJob) (costs : WindowCosts) (c : Counts) (a : List ℕ) : Type 0 where
  pub left : (job : Job) → parse j.bytes.now ≡ accepted job → LeftBy (mispredicting_run (with_costs job costs.entries.now) (room a)) c a

-- the run with the words vs as state, with room for k observations in the area b: the word on the pair, its counts, and its trace
pub record SecondOf (job : Job) (vs : List ℕ) (k : ℕ) (b b' : List ℕ) (r : SecondRun) : Type 0 where
  pub word : r.word ≡ pair_word job vs k
  pub counts : r.counts ≡ counts (mispredicting_run (with_state job vs) k)
  pub trace : b' ≡ written (trace_words (mispredicting_run (with_state job vs) k).gathered.trace) b

-- the run with the second state by the table has been made, in areas that were b and w; the job's own had room for k observations
pub record SecondRan (j : AcceptedJob) (second : List ℕ) (costs : WindowCosts) (k : ℕ) (b w b' w' : List ℕ) (r : SecondRun) : Type 0 where
  pub ran : (job : Job) → parse j.bytes.now ≡ accepted job
      → SecondOf (with_costs job costs.entries.now) (words_at (locations j.trailer) second 0) k b b' r
  pub work : w' ≡ written (replicate working_words 0) w
