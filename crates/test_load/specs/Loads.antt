-- What the code of a test load asks and gives: a word of a new state, and the run of the new state.
-- Assumes nothing.
use Rattle.std.specs.Prelude.{◌≡◌, Bool, cond, List, ℕ, ◌*◌, ◌≤◌, length, replicate}
use Rattle.rules.specs.Rules.Runs.{Job}
use Rattle.rules.specs.Rules.JobFile.{accepted, parse, locations, words_at}
use Rattle.rules.specs.Rules.Costs.{with_costs}
use Rattle.rules.specs.Rules.Encoding.{word_bytes}
use Rattle.rules.specs.Rules.Calls.{working_words, written}
use Rattle.rules.specs.Rules.TestLoads.{next_word}
use Rattle.window_costs.specs.declared.table.WindowCosts.{WindowCosts}
use Rattle.job.specs.declared.accepted.AcceptedJob.{AcceptedJob}
use Rattle.pair.specs.declared.SecondRun.{SecondRun}
use Rattle.pair.specs.Runs.{Ready, SecondOf}
use Rattle.test_load.specs.declared.NewWord.{NewWord}

-- the word of a location that holds `own`, and the last word that was made: a word that is kept uses up none
abbrev pub new_word_of : Bool → ℕ → ℕ → NewWord
new_word_of keep own last = cond keep (record { word = own; last = last }) (record { word = next_word last; last = next_word last })

-- the words of a job's own state
abbrev pub own_words : AcceptedJob → List ℕ
own_words j = words_at (locations j.trailer) j.bytes.now j.trailer.state

-- The areas of the pair are not refused, and there are bytes enough for the new state.
pub record Loadable (j : AcceptedJob) (a b w s : List ℕ) : Type 0 where
  pub ready : Ready a b w
  pub state : 8 * locations j.trailer ≤ length s

-- The new state with the words vs has been written, and run by the table, in areas that were b, w and s; the job's own run had room for k observations.
pub record NewStateRan (j : AcceptedJob) (costs : WindowCosts) (vs : List ℕ) (k : ℕ) (b w s b' w' s' : List ℕ) (r : SecondRun) : Type 0 where
  pub ran : (job : Job) → parse j.bytes.now ≡ accepted job → SecondOf (with_costs job costs.entries.now) vs k b b' r
  pub work : w' ≡ written (replicate working_words 0) w
  pub state : s' ≡ written (word_bytes vs) s
