-- How the code of a test load meets the rules: the words of a new state and their bytes, the run of the new state, and the refusals.
-- Assumes nothing.
use mathlib.Core.Path.{◌≡◌, refl, sym, ap, ◌∙◌}
use mathlib.Core.Bool.{Bool, true, false, cond}
use mathlib.Core.List.{List, [], ◌∷◌, ◌++◌}
use Prim.{⊥}
use Prim.Native.Nat.{ℕ, suc, ◌+◌, ◌-◌, ◌*◌, ◌^◌, ◌<◌, ◌≤◌}
use native.Mathlib.Omega.{arith}
use borrow.Author.Tests.{eq-eqb, ne_eqb, le-leb, lt-leb}
use lib.ListN.{length, take, replicate}
use lib.Seq.{take_at}
use Rattle.std.specs.Prelude.{Ok, Err}
use Rattle.location.specs.declared.LocationSet.{LocationSet}
use Rattle.location.specs.Sets.{union, member}
use Rattle.rules.specs.declared.Trailer.{Trailer}
use Rattle.rules.specs.declared.Counts.{Counts}
use Rattle.rules.specs.declared.Refusal.{Refusal}
use Rattle.rules.specs.declared.Refusal.TheVariants as refusals
use Rattle.rules.specs.declared.TestLoad.TheVariants as outcomes
use Rattle.rules.specs.Rules.Outcomes.{paired}
use Rattle.rules.specs.Rules.Operators.{apply2, xor, shl, shr}
use Rattle.rules.specs.Rules.Runs.{Job, Result, mispredicting_run, is_finished}
use Rattle.rules.specs.Rules.JobFile.{accepted, parse, little, locations, words_at}
use Rattle.rules.specs.Rules.Costs.{costs_fit, with_costs, tabled}
use Rattle.rules.specs.Rules.Encoding.{bytes_of, word_bytes, Bytes}
use Rattle.rules.specs.Rules.Calls.{room, working_words, written, counts}
use Rattle.rules.specs.Rules.Pairs.{pair_lent, pair_after, pair_fits, pair_accepted}
use Rattle.rules.specs.Rules.TestLoads.{next_word, new_words, new_state, TestLoadAreas, test_load_lent, own_run_alone, new_state_run, test_load_refused}
use Rattle.rules.specs.Rules.TestLoads.{state_fits, test_load_parsed, test_load_call}
use Rattle.rules.specs.Rules.Demands.{Exact}
use Rattle.rules.proofs.Theorems.JobLaws.{length-words_at}
use Rattle.rules.proofs.Theorems.Costs.{tabled-accepted, tabled-refused}
use Rattle.rules.proofs.Theorems.EncodedWords.{length-word_bytes}
use Rattle.rules.proofs.Theorems.NewStates.{length-new_words, read-new}
use Rattle.rules.proofs.Theorems.TestLoads.{TestLoads, test_load_unfinished, test_load_finished}
use Rattle.window_costs.specs.declared.table.WindowCosts.{WindowCosts}
use Rattle.job.specs.declared.accepted.AcceptedJob.{AcceptedJob}
use Rattle.job.specs.Answers.{Accepts, accepts}
use Rattle.execution.specs.declared.Mode.TheVariants as modes
use Rattle.execution.specs.declared.Ran.{Ran}
use Rattle.execution.specs.Running.{EndsAs}
use Rattle.job_run.specs.Accepted.{accepted-size, accepted-public, accepted-init}
use Rattle.job_run.proofs.Laws.{cleared-same, own-run}
use Rattle.pair.specs.declared.SecondRun.{SecondRun}
use Rattle.pair.specs.Runs.{OwnRunOf, SecondOf, SecondRan}
use Rattle.pair.proofs.Laws.{same-room, areas-enough}
use Rattle.test_load.specs.declared.NewWord.{NewWord}
use Rattle.test_load.specs.Loads.{own_words, new_word_of, Loadable, NewStateRan}

-- ---- the words of a new state
-- the six operations of xorshift, one after the other
pub next-made : (x : ℕ) {a y b z d r : ℕ} → a ≡ apply2 shl x 13 → y ≡ apply2 xor x a → b ≡ apply2 shr y 7 → z ≡ apply2 xor y b → d ≡ apply2 shl z 17
    → r ≡ apply2 xor z d → r ≡ next_word x
unfolding next_word
next-made x ea ey eb ez ed er = rw (er, ed, ez, eb, ey, ea)

-- what is left of the new state from location l on, where `last` is the last word that was made
abbrev pub rest_of : LocationSet → List ℕ → ℕ → ℕ → ℕ → ℕ → List ℕ
rest_of kept bs at n last l = word_bytes (new_words kept l last (words_at (n - l) bs (at + 8 * l)))

module _ (kept : LocationSet) (bs : List ℕ) (at n last l : ℕ) where
  -- the word of location l and what is left after it
  words-next : l < n → words_at (n - l) bs (at + 8 * l) ≡ little bs (at + 8 * l) 8 ∷ words_at (n - (l + 1)) bs (at + 8 * (l + 1))
  unfolding words_at
  words-next h =
      let e : n - l ≡ suc (n - (l + 1)) = omega arith in
      let f : at + 8 * l + 8 ≡ at + 8 * (l + 1) = omega arith in
      rw (e, ← f)

  new-next : (v : ℕ) (vs : List ℕ) {keep : Bool} {x : NewWord} → keep ≡ member kept l → x ≡ new_word_of keep v last
      → new_words kept l last (v ∷ vs) ≡ x.word ∷ new_words kept (l + 1) x.last vs
  unfolding new_words
  new-next v vs {keep} {x} ek ex =
      let s : suc l ≡ l + 1 = omega arith in
      rw (ex, ← ek, s) (go keep)
    where
      go : (b : Bool)
          → cond b (v ∷ new_words kept (l + 1) last vs) (next_word last ∷ new_words kept (l + 1) (next_word last) vs)
          ≡ (new_word_of b v last).word ∷ new_words kept (l + 1) (new_word_of b v last).last vs
      go true = refl
      go false = refl

  pub rest-next : {keep : Bool} {v k : ℕ} {x : NewWord} → l < n → k ≡ l → keep ≡ member kept k → v ≡ little bs (at + 8 * l) 8
      → x ≡ new_word_of keep v last
      → rest_of kept bs at n last l ≡ bytes_of 8 x.word ++ rest_of kept bs at n x.last (l + 1)
  unfolding word_bytes
  rest-next {v = v} h el ek ev ex =
      let ws = words_at (n - (l + 1)) bs (at + 8 * (l + 1)) in
      ap word_bytes (ap (new_words kept l last) (words-next h ∙ ap (λ (y : ℕ). y ∷ ws) (sym ev)) ∙ new-next v ws (ek ∙ ap (member kept) el) ex)

  pub rest_over : n ≤ l → rest_of kept bs at n last l ≡ []
  unfolding words_at new_words word_bytes
  rest_over h = let e : n - l ≡ 0 = omega arith in rw e

-- all of it: eight bytes a location
pub rest-length : (kept : LocationSet) (bs : List ℕ) (at n seed : ℕ) → length (rest_of kept bs at n seed 0) ≡ 8 * n
rest-length kept bs at n seed =
    let vs = words_at (n - 0) bs (at + 8 * 0) in
    let a = length-word_bytes (new_words kept 0 seed vs) in
    let b = length-new_words kept 0 seed vs in
    let c = length-words_at (n - 0) bs (at + 8 * 0) in
    omega arith

pub rest-first : (kept : LocationSet) (bs : List ℕ) (at n seed : ℕ) → rest_of kept bs at n seed 0 ≡ word_bytes (new_words kept 0 seed (words_at n bs at))
rest-first kept bs at n seed =
    let e : n - 0 ≡ n = omega arith in
    let f : at + 8 * 0 ≡ at = omega arith in
    rw (e, f)

-- ---- the bytes of the new state, of which the code takes a part
module _ (vs s : List ℕ) {s' : List ℕ} {n : ℕ} (es : s' ≡ written (word_bytes vs) s) (en : length vs ≡ n) where
  part_bytes : take (8 * n) s' ≡ word_bytes vs
  unfolding written
  part_bytes =
      let z : length (word_bytes vs) ≡ 8 * n = let l = length-word_bytes vs in omega arith in
      ap (take (8 * n)) es ∙ take_at (word_bytes vs) _ (8 * n) z

  part_length : length (take (8 * n) s') ≡ 8 * n
  part_length = ap length part_bytes ∙ (let l = length-word_bytes vs in omega arith)

-- the words of a job's new state, for any set of those that are kept
module _ (j : AcceptedJob) (all : Bytes j.bytes.now) (kept : LocationSet) (seed : ℕ) (lt : seed < 2 ^ 64) (s : List ℕ) {s' : List ℕ} {n : ℕ}
    (en : n ≡ locations j.trailer) (es : s' ≡ written (word_bytes (new_words kept 0 seed (words_at n j.bytes.now j.trailer.state))) s) where
  abbrev bs : List ℕ
  bs = j.bytes.now

  abbrev at : ℕ
  at = j.trailer.state

  abbrev vs : List ℕ
  vs = new_words kept 0 seed (words_at n bs at)

  size : length vs ≡ n
  size = length-new_words kept 0 seed (words_at n bs at) ∙ length-words_at n bs at

  pub second-sized : length (take (8 * n) s') ≡ 8 * locations j.trailer
  second-sized = part_length vs s es size ∙ ap (λ (k : ℕ). 8 * k) en

  second-read : words_at (locations j.trailer) (take (8 * n) s') 0 ≡ new_words kept 0 seed (own_words j)
  second-read = rw (← en) (ap (λ (p : List ℕ). words_at n p 0) (part_bytes vs s es size) ∙ read-new kept seed n bs at all lt)

  pub new-state_ran : {table : WindowCosts} {k : ℕ} {b w b' w' : List ℕ} {r : SecondRun} → SecondRan j (take (8 * n) s') table k b w b' w' r
      → NewStateRan j table (new_words kept 0 seed (own_words j)) k b w s b' w' s' r
  new-state_ran x = record {
    ran = λ job p. rw second-read at (x.ran job p);
    work = x.work;
    state = rw en at es;
  }

-- ---- the call, where nothing is refused
module _ (j : AcceptedJob) (table : WindowCosts) {a b w s : List ℕ} {seed : ℕ} (q : Loadable j a b w s) (positive : 0 < seed) where
  abbrev mine : Accepts j.bytes.now j.trailer
  mine = accepts j

  -- the job with its table
  abbrev job : Job
  job = with_costs mine.job table.entries.now

  -- the lent areas
  abbrev areas : TestLoadAreas
  areas = test_load_lent a b w s

  loads : TestLoads j.bytes.now seed table.entries.now areas
  unfolding state_fits
  loads = record {
    read = mine.job;
    parsed = mine.parsed;
    table = table.fit;
    enough = areas-enough a b w q.ready.work q.ready.traces;
    seeded = ne_eqb seed 0 (λ e. omega arith);
    fits = le-leb (8 * length job.init) (length s) (let z = accepted-size mine in let f = q.state in omega arith);
  }

  -- the job's own run
  module _ {w₁ a' : List ℕ} {r : Ran} (o : OwnRunOf j table w w₁ a a' r) where
    abbrev own : Result
    own = mispredicting_run job (room a)

    ends : EndsAs j.trailer a w₁ a' r own
    ends = own-run mine modes.Mispredicting o mine.job mine.parsed

    own-stop : r.counts.stop ≡ own.stop
    unfolding counts
    own-stop = ap (λ (c : Counts). c.stop) ends.reports.counts

    pub exact-unfinished : {w₂ : List ℕ} {f : Bool} → f ≡ is_finished r.counts.stop → f ≡ false
        → w₂ ≡ written (replicate working_words 0) w₁
        → Exact (test_load_call j.bytes.now seed table.entries.now areas) (Ok (outcomes.Undecided r.counts)) (test_load_lent a' b w₂ s)
    unfolding own_run_alone loads
    exact-unfinished ef e ew =
        let u : is_finished own.stop ≡ false = ap is_finished (sym own-stop) ∙ sym ef ∙ e in
        rw (test_load_unfinished loads u)
        (record {
          answer = ap (λ (n : Counts). Ok (outcomes.Undecided n)) ends.reports.counts;
          areas = λ i. test_load_lent (ends.trace i) b ((ew ∙ cleared-same working_words w₁ w o.past) i) s;
        })

    -- the words of the new state are the rules'
    same-state : new_words (union j.public r.plain) 0 seed (own_words j) ≡ new_state job own seed
    unfolding new_state
    same-state = λ i. new_words (union ((j.listed ∙ accepted-public mine) i) (ends.reports.plain i)) 0 seed (accepted-init mine i)

    pub exact-made : {b' w₂ s' : List ℕ} {x : SecondRun} {f : Bool} → f ≡ is_finished r.counts.stop → f ≡ true
        → NewStateRan j table (new_words (union j.public r.plain) 0 seed (own_words j)) (room a') b w₁ s b' w₂ s' x
        → Exact (test_load_call j.bytes.now seed table.entries.now areas) (Ok (outcomes.Compared (paired x.word r.counts x.counts)))
        (test_load_lent a' b' w₂ s')
    unfolding new_state_run pair_accepted pair_after loads
    exact-made {b'} {w₂} {s'} {x} ef e n =
        let u : is_finished own.stop ≡ true = ap is_finished (sym own-stop) ∙ sym ef ∙ e in
        let y : SecondOf job (new_state job own seed) (room a) b b' x = rw (same-state, same-room job ends) at (n.ran mine.job mine.parsed) in
        let st : s' ≡ written (word_bytes (new_state job own seed)) s = rw same-state at n.state in
        rw (test_load_finished loads u)
        (record {
          answer = λ i. Ok (outcomes.Compared (paired (y.word i) (ends.reports.counts i) (y.counts i)));
          areas = λ i. test_load_lent (ends.trace i) (y.trace i) ((n.work ∙ cleared-same working_words w₁ w o.past) i) (st i);
        })

-- ---- refusals, in their order
module _ {bs : List ℕ} {t : Trailer} (k : Accepts bs t) (seed : ℕ) (costs a b w s : List ℕ) where
  abbrev lent : TestLoadAreas
  lent = test_load_lent a b w s

  refused : (n : Refusal) → test_load_call bs seed costs lent ≡ test_load_refused n lent → Exact (test_load_call bs seed costs lent) (Err n) lent
  unfolding test_load_refused
  refused n e = rw e (record { answer = refl; areas = refl })

  pub no_table : costs_fit costs ≡ false → Exact (test_load_call bs seed costs lent) (Err refusals.Costs) lent
  unfolding test_load_call test_load_parsed
  no_table c = refused refusals.Costs (rw (tabled-refused bs costs k.job k.parsed c, test_load_parsed))

  module _ (table : costs_fit costs ≡ true) where
    -- the job with its table
    tabled-job : tabled (parse bs) costs ≡ accepted (with_costs k.job costs)
    tabled-job = tabled-accepted bs costs k.job k.parsed table

    pub unfit : pair_fits (pair_lent a b w) ≡ false → Exact (test_load_call bs seed costs lent) (Err refusals.Areas) lent
    unfolding test_load_call test_load_parsed
    unfit h = refused refusals.Areas (rw (tabled-job, h, test_load_parsed))

    module _ (fit : pair_fits (pair_lent a b w) ≡ true) where
      pub no_seed : seed ≡ 0 → Exact (test_load_call bs seed costs lent) (Err refusals.Seed) lent
      unfolding test_load_call test_load_parsed
      no_seed z = refused refusals.Seed (rw (tabled-job, fit, eq-eqb seed 0 z, test_load_parsed))

      pub short_state : (seed ≡ 0 → ⊥) → length s < 8 * locations t → Exact (test_load_call bs seed costs lent) (Err refusals.Output) lent
      unfolding test_load_call test_load_parsed state_fits
      short_state n l =
          let z = accepted-size k in
          let f : state_fits (with_costs k.job costs) lent ≡ false = lt-leb (8 * length k.job.init) (length s) (omega arith) in
          refused refusals.Output (rw (tabled-job, fit, ne_eqb seed 0 n, f, test_load_parsed))
