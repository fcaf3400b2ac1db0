-- What a test load promises, in one record, of the job's bytes, the seed and the areas that the call is given, of the very answer r that it
-- returns and of the areas as it leaves them (`after`).
--   exact       the answer, every word and every byte of the lent areas are those of the rules, for refused calls too;
--   unaltered   a refusal leaves every area as it was;
--   compared    where the job's own run has finished: the new state keeps what is public and what the plain run rests on, so that its
--               plain trace is the same, and the check of the pair is made on it;
--   unfinished  where it has not: its own stop and counts, its trace and no state;
--   fixed, bounded  as of a run: a table of eight ones gives every earlier answer, and any table keeps the bounds of the wrong paths.
-- Assumes nothing.
use Rattle.std.specs.Prelude.{◌≡◌, List, ◌≢◌, ℕ, ◌*◌, take, Ok}
use Rattle.rules.specs.declared.Stop.TheVariants.{Finished}
use Rattle.rules.specs.declared.Verdict.{Verdict}
use Rattle.rules.specs.declared.Verdict.TheVariants as verdicts
use Rattle.rules.specs.declared.Counts.{Counts}
use Rattle.rules.specs.declared.PairWord.{PairWord}
use Rattle.rules.specs.declared.PairWord.TheVariants as words
use Rattle.rules.specs.declared.TestLoad.TheVariants as loads
use Rattle.rules.specs.Rules.Outcomes.{TestLoadAnswer, paired, judged}
use Rattle.rules.specs.Rules.Instructions.{window_costs}
use Rattle.rules.specs.Rules.Answers.{test_load_refusal}
use Rattle.rules.specs.Rules.JobFile.{trailer, locations, state_of}
use Rattle.rules.specs.Rules.Calls.{Areas, run_call}
use Rattle.rules.specs.Rules.Demands.{Exact, Unaltered, AlikeOn, WrongPathsBounded, second_state, AlikePublic, RunAreas, SamePlain}
use Rattle.rules.specs.Rules.Promises.{PairPromise, LentArea}
use Rattle.rules.specs.Rules.TestLoads.{TestLoadAreas, test_load_lent, fixed_test_load_call, test_load_call}

-- the bytes of the new state, which stand at the front of the area lent for it
unfoldable pub new_bytes : List ℕ → TestLoadAreas → List ℕ
new_bytes f after = take (8 * locations (trailer f)) after.state

-- The counts n and the first trace are those of the job's own run by the same costs, whose verdict is v: in areas of a run, p, with as much room
-- for the trace, the run counts the same, and with the same trace area it leaves the same there.
pub record OwnRun (f costs : List ℕ) (before : TestLoadAreas) (n : Counts) (v : Verdict) (after : TestLoadAreas) : Type 0 where
  pub outcome : (p : Areas) → RunAreas f before.pair p → (run_call f costs p).answer.outcome ≡ Ok (judged n v)
  pub trace : (p : Areas) → RunAreas f before.pair p → p.trace ≡ before.pair.first → (run_call f costs p).areas.trace ≡ after.pair.first

-- What holds where a new state was made and run.
pub record NewStateMade (f costs : List ℕ) (before : TestLoadAreas) (word : PairWord) (n n' : Counts) (after : TestLoadAreas) : Type 0 where
  pub verdict : Verdict
  pub own : OwnRun f costs before n verdict after
  pub finished : n.stop ≡ Finished
  -- the new state "keeps the others": what is public, and the plain set that a run of the job reports
  pub public : AlikePublic f (new_bytes f after)
  pub plain : (p : Areas) → RunAreas f before.pair p
      → AlikeOn (run_call f costs p).answer.plain (state_of (trailer f) f) (second_state f (new_bytes f after))
  -- "the plain trace of the new state is the same; the full trace may differ, and the pair check is run on it"
  pub plainly : SamePlain f (new_bytes f after) before.pair
  pub checked : PairPromise f (new_bytes f after) costs before.pair (Ok (paired word n n')) after.pair
  -- so that two of the words on a pair are never given
  pub comparable : word ≢ words.NotComparable
  pub same-plain : word ≢ words.PlainDiffers

-- What holds where the job's own run has not finished: "undecided with its own stop and counts alone, its trace alone is written and no
-- state".
pub record OwnRunAlone (f costs : List ℕ) (before : TestLoadAreas) (n : Counts) (after : TestLoadAreas) : Type 0 where
  pub own : OwnRun f costs before n verdicts.Undecided after
  pub stopped : n.stop ≢ Finished
  pub second : after.pair.second ≡ before.pair.second
  pub state : after.state ≡ before.state

pub record TestLoadPromise (f : List ℕ) (seed : ℕ) (costs : List ℕ) (before : TestLoadAreas) (r : TestLoadAnswer) (after : TestLoadAreas)
    : Type 0 where
  pub exact : Exact (test_load_call f seed costs before) r after
  pub unaltered : Unaltered test_load_refusal r before after
  pub compared : {word : PairWord} {n n' : Counts} → r ≡ Ok (loads.Compared (paired word n n')) → NewStateMade f costs before word n n' after
  pub unfinished : {n : Counts} → r ≡ Ok (loads.Undecided n) → OwnRunAlone f costs before n after
  pub fixed : costs ≡ window_costs → Exact (fixed_test_load_call f seed before) r after
  pub bounded : WrongPathsBounded f costs

-- ---- the lent areas in a contract
abbrev pub test_load_at_entry : LentArea → LentArea → LentArea → LentArea → TestLoadAreas
test_load_at_entry first second work state = test_load_lent first.entry.now second.entry.now work.entry.now state.entry.now

abbrev pub test_load_at_exit : LentArea → LentArea → LentArea → LentArea → TestLoadAreas
test_load_at_exit first second work state = test_load_lent first.exit.now second.exit.now work.exit.now state.exit.now
