-- The check of a pair of states.
-- Assumes nothing.
use Rattle.std.specs.Prelude.{Bool, true, false, not, ◌&&◌, ◌||◌, List, [], ◌∷◌, ℕ, suc, ◌*◌, eqb, leb, length, replicate, Ok, Err}
use Rattle.location.specs.declared.LocationSet.{LocationSet}
use Rattle.location.specs.Sets.{member}
use Rattle.rules.specs.declared.PairWord.{PairWord}
use Rattle.rules.specs.declared.PairWord.TheVariants as pairs
use Rattle.rules.specs.declared.Refusal.{Refusal}
use Rattle.rules.specs.declared.Refusal.TheVariants as refusals
use Rattle.rules.specs.Rules.Outcomes.{PairAnswer, paired}
use Rattle.rules.specs.Rules.Instructions.{Observation}
use Rattle.rules.specs.Rules.Runs.{Job, Result, mispredicting_run, plain_run, is_finished}
use Rattle.rules.specs.Rules.JobFile.{Parsed, accepted, rejected, parse, words_at}
use Rattle.rules.specs.Rules.Costs.{tabled}
use Rattle.rules.specs.Rules.Calls.{trace_words, room, working_words, written, Called, counts}

-- the job with another state
unfoldable pub with_state : Job → List ℕ → Job
with_state job vs = record { code = job.code; init = vs; public = job.public; budget = job.budget }

-- the two states hold the same word at each public location, counted from l
unfoldable pub alike_from : LocationSet → ℕ → List ℕ → List ℕ → Bool
alike_from public l [] ys = true
alike_from public l (x ∷ xs) [] = true
alike_from public l (x ∷ xs) (y ∷ ys) = (not (member public l) || eqb x y) && alike_from public (suc l) xs ys

unfoldable pub same_words : List ℕ → List ℕ → Bool
same_words [] [] = true
same_words [] (y ∷ ys) = false
same_words (x ∷ xs) [] = false
same_words (x ∷ xs) (y ∷ ys) = eqb x y && same_words xs ys

-- two traces are the same where their words are
unfoldable pub same_trace : List Observation → List Observation → Bool
same_trace a b = same_words (trace_words a) (trace_words b)

-- "First that fits: not comparable (they differ at a public location), undecided (either run not finished), plain differs (plain
-- traces differ), leak shown (full traces differ), equal." By what holds: alike at the public locations, both runs finished, the
-- plain traces the same, the full traces the same.
abbrev pub first_that_fits : Bool → Bool → Bool → Bool → PairWord
first_that_fits alike finished plain full =
    elim alike [
      | false ↦ pairs.NotComparable
      | true ↦ elim finished [
        | false ↦ pairs.Undecided
        | true ↦ elim plain [ false ↦ pairs.PlainDiffers | true ↦ elim full [ false ↦ pairs.LeakShown | true ↦ pairs.Equal ] ]
      ]
    ]

unfoldable pub pair_word : Job → List ℕ → ℕ → PairWord
pair_word job vs k =
    let r = mispredicting_run job k in
    let r' = mispredicting_run (with_state job vs) k in
    first_that_fits (alike_from job.public 0 job.init vs) (is_finished r.stop && is_finished r'.stop)
    (same_trace (plain_run job k).gathered.trace (plain_run (with_state job vs) k).gathered.trace) (same_trace r.gathered.trace r'.gathered.trace)

-- "A pair has two trace areas of equal length and no end area"
pub record PairAreas : Type 0 where
  pub first : List ℕ
  pub second : List ℕ
  pub work : List ℕ

-- the three areas, by what each holds
abbrev pub pair_lent : List ℕ → List ℕ → List ℕ → PairAreas
pair_lent first second work = record { first = first; second = second; work = work }

-- "Both runs are made and both traces written in every one of these cases"; "all else is left as by a run"
unfoldable pub pair_after : Result → Result → PairAreas → PairAreas
pair_after r r' a = record {
  first = written (trace_words r.gathered.trace) a.first;
  second = written (trace_words r'.gathered.trace) a.second;
  work = written (replicate working_words 0) a.work;
}

unfoldable pub pair_refused : Refusal → PairAreas → Called PairAnswer PairAreas
pair_refused n a = record { answer = Err n; areas = a }

-- "second state not 128 + 8m bytes"
unfoldable pub second_state_fits : Job → List ℕ → Bool
second_state_fits job second = eqb (length second) (8 * length job.init)

-- "working area too short, or a pair's trace areas unequal"
unfoldable pub pair_fits : PairAreas → Bool
pair_fits a = leb working_words (length a.work) && eqb (length a.first) (length a.second)

unfoldable pub pair_accepted : Job → List ℕ → PairAreas → Called PairAnswer PairAreas
pair_accepted job vs a =
    let k = room a.first in
    let r = mispredicting_run job k in
    let r' = mispredicting_run (with_state job vs) k in
    record { answer = Ok (paired (pair_word job vs k) (counts r) (counts r')); areas = pair_after r r' a }

-- what is tested after 9: of the job with its table, 14 and then 10
unfoldable pub pair_tabled : Parsed → List ℕ → PairAreas → Called PairAnswer PairAreas
pair_tabled (rejected n) second a = pair_refused n a
pair_tabled (accepted job) second a =
    elim (pair_fits a) [
      | false ↦ pair_refused refusals.Areas a
      | true ↦ pair_accepted job (words_at (length job.init) second 0) a
    ]

-- what was read of the file, and the same with the table by which the runs are made
unfoldable pub pair_parsed : Parsed → Parsed → List ℕ → PairAreas → Called PairAnswer PairAreas
pair_parsed (rejected n) withTable second a = pair_refused n a
pair_parsed (accepted job) withTable second a =
    elim (second_state_fits job second) [ false ↦ pair_refused refusals.SecondState a | true ↦ pair_tabled withTable second a ]

-- document 01's call, by the fixed table
unfoldable pub fixed_pair_call : List ℕ → List ℕ → PairAreas → Called PairAnswer PairAreas
fixed_pair_call file second a = pair_parsed (parse file) (parse file) second a

-- F-7: "Every call with a mispredicting run takes one table", so that both runs have the same; 14 is "tested directly before 10"
unfoldable pub pair_call : List ℕ → List ℕ → List ℕ → PairAreas → Called PairAnswer PairAreas
pair_call file second costs a = pair_parsed (parse file) (tabled (parse file) costs) second a
