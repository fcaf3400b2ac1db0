-- A test load that can be repeated: from a seed a new state of a job, and the check of the pair.
-- Assumes nothing.
use Rattle.std.specs.Prelude.{Bool, true, false, cond, List, [], ◌∷◌, ℕ, suc, ◌*◌, eqb, leb, length, replicate, Ok, Err}
use Rattle.location.specs.declared.LocationSet.{LocationSet}
use Rattle.location.specs.Sets.{union, member}
use Rattle.rules.specs.declared.Refusal.{Refusal}
use Rattle.rules.specs.declared.Refusal.TheVariants as refusals
use Rattle.rules.specs.declared.TestLoad.TheVariants as loads
use Rattle.rules.specs.Rules.Outcomes.{PairAnswer, TestLoadAnswer}
use Rattle.rules.specs.Rules.Operators.{apply2, xor, shl, shr}
use Rattle.rules.specs.Rules.Runs.{Job, Result, mispredicting_run, is_finished}
use Rattle.rules.specs.Rules.JobFile.{Parsed, accepted, rejected, parse}
use Rattle.rules.specs.Rules.Costs.{tabled}
use Rattle.rules.specs.Rules.Encoding.{word_bytes}
use Rattle.rules.specs.Rules.Calls.{trace_words, room, working_words, written, Called, counts}
use Rattle.rules.specs.Rules.Pairs.{PairAreas, pair_lent, pair_fits, pair_accepted}

-- ---- the new state
-- "each next word is made by xorshift: exclusive-or with itself shifted left 13, then right 7, then left 17, all in 64 bits"
unfoldable pub next_word : ℕ → ℕ
next_word x =
    let y = apply2 xor x (apply2 shl x 13) in
    let z = apply2 xor y (apply2 shr y 7) in
    apply2 xor z (apply2 shl z 17)

-- The words vs that stand from location l on, as a new state has them: those in the set are kept, each other one is the next word after
-- x, the last that was made (at first the seed).
unfoldable pub new_words : LocationSet → ℕ → ℕ → List ℕ → List ℕ
new_words kept l x [] = []
new_words kept l x (v ∷ vs) =
    cond (member kept l) (v ∷ new_words kept (suc l) x vs) (next_word x ∷ new_words kept (suc l) (next_word x) vs)

-- "A new state takes the next word at each location that is neither public nor in the plain set, lowest location first, and keeps the
-- others." The plain set is that of the job's own run.
unfoldable pub new_state : Job → Result → ℕ → List ℕ
new_state job own seed = new_words (union job.public own.gathered.plain) 0 seed job.init

-- ---- the call
-- "with a pair's areas", and the bytes "lent for the new state"
pub record TestLoadAreas : Type 0 where
  pub pair : PairAreas
  pub state : List ℕ

-- the four areas, by what each holds
abbrev pub test_load_lent : List ℕ → List ℕ → List ℕ → List ℕ → TestLoadAreas
test_load_lent first second work state = record { pair = pair_lent first second work; state = state }

-- "so there the job is answered undecided with its own stop and counts alone, its trace alone is written and no state"
unfoldable pub own_run_alone : Result → TestLoadAreas → Called TestLoadAnswer TestLoadAreas
own_run_alone own a = record {
  answer = Ok (loads.Undecided (counts own));
  areas = test_load_lent (written (trace_words own.gathered.trace) a.pair.first) a.pair.second
      (written (replicate working_words 0) a.pair.work) a.state;
}

-- an answer on a pair, as one of a test load
abbrev pub test_load_of : PairAnswer → TestLoadAnswer
test_load_of (Err n) = Err n
test_load_of (Ok x) = Ok (loads.Compared x)

-- "the pair check is run on it": vs are the words of the new state
unfoldable pub new_state_run : Job → List ℕ → TestLoadAreas → Called TestLoadAnswer TestLoadAreas
new_state_run job vs a =
    let check = pair_accepted job vs a.pair in
    record {
      answer = test_load_of check.answer;
      areas = record { pair = check.areas; state = written (word_bytes vs) a.state };
    }

unfoldable pub test_load_accepted : Job → ℕ → TestLoadAreas → Called TestLoadAnswer TestLoadAreas
test_load_accepted job seed a =
    let own = mispredicting_run job (room a.pair.first) in
    elim (is_finished own.stop) [ false ↦ own_run_alone own a | true ↦ new_state_run job (new_state job own seed) a ]

unfoldable pub test_load_refused : Refusal → TestLoadAreas → Called TestLoadAnswer TestLoadAreas
test_load_refused n a = record { answer = Err n; areas = a }

-- "fewer than 128 + 8m bytes lent for the new state"
unfoldable pub state_fits : Job → TestLoadAreas → Bool
state_fits job a = leb (8 * length job.init) (length a.state)

-- "Turned away: 13, seed 0, after 10; then 12"
unfoldable pub test_load_parsed : Parsed → ℕ → TestLoadAreas → Called TestLoadAnswer TestLoadAreas
test_load_parsed (rejected n) seed a = test_load_refused n a
test_load_parsed (accepted job) seed a =
    elim (pair_fits a.pair) [
      | false ↦ test_load_refused refusals.Areas a
      | true ↦ elim (eqb seed 0) [
        | true ↦ test_load_refused refusals.Seed a
        | false ↦ elim (state_fits job a) [ false ↦ test_load_refused refusals.Output a | true ↦ test_load_accepted job seed a ]
      ]
    ]

-- the call of F-3, by the fixed table
unfoldable pub fixed_test_load_call : List ℕ → ℕ → TestLoadAreas → Called TestLoadAnswer TestLoadAreas
fixed_test_load_call file seed a = test_load_parsed (parse file) seed a

-- F-7: "Every call with a mispredicting run takes one table", so that both runs have the same; 14 is "tested directly before 10"
unfoldable pub test_load_call : List ℕ → ℕ → List ℕ → TestLoadAreas → Called TestLoadAnswer TestLoadAreas
test_load_call file seed costs a = test_load_parsed (tabled (parse file) costs) seed a
