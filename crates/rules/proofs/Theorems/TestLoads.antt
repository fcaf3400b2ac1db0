-- A test load that is exact keeps its whole promise: its new state keeps what is public and the plain set, so that its plain trace is the
-- job's; and what it says of the two runs is what the check of that pair says.
-- Assumes nothing.
use Rattle.std.specs.Prelude.{◌≡◌, refl, Bool, false, ◌&&◌, ◌≢◌, ℕ, ◌*◌, ◌^◌, ◌<◌, eqb, Ok}
use Rattle.std.proofs.Common.{sym, subst, ◌∙◌, zero-add, arith}
use Rattle.std.proofs.Math.Path.{ap}
use Rattle.std.proofs.Math.Bool.{true, true≢false}
use mathlib.Core.List.{List}
use borrow.Author.Tests.{eq-eqb}
use Rattle.std.proofs.Math.ListN.{length}
use Rattle.std.proofs.Math.Seq.{take_at}
use Rattle.location.specs.declared.LocationSet.{LocationSet}
use Rattle.location.specs.Sets.{union}
use Rattle.location.specs.SetLaws.{Within, within-left, within-right}
use Rattle.rules.specs.declared.Refusal.{Refusal}
use Rattle.rules.specs.declared.Refusal.TheVariants as refusals
use Rattle.rules.specs.declared.Counts.{Counts}
use Rattle.rules.specs.declared.Compared.{Compared}
use Rattle.rules.specs.declared.PairWord.{PairWord}
use Rattle.rules.specs.declared.PairWord.TheVariants as words
use Rattle.rules.specs.declared.TestLoad.TheVariants as loads
use Rattle.rules.specs.Rules.Outcomes.{TestLoadAnswer, paired}
use Rattle.rules.specs.Rules.Instructions.{window_costs}
use Rattle.rules.specs.Rules.Runs.{Gathered, Job, Result, mispredicting_run, plain_run, is_finished, judge, verdict}
use Rattle.rules.specs.Rules.Answers.{test_load_refusal}
use Rattle.rules.specs.Rules.JobFile.{Parsed, accepted, rejected, parse, trailer, locations, words_at, state_of}
use Rattle.rules.specs.Rules.Costs.{costs_fit, with_costs}
use Rattle.rules.specs.Rules.Encoding.{word_bytes, Bytes}
use Rattle.rules.specs.Rules.Calls.{trace_words, Areas, room, written, areas_after, counts, run_report, run_call}
use Rattle.rules.specs.Rules.Pairs.{with_state, alike_from, same_trace, first_that_fits, pair_word, pair_after, second_state_fits, pair_fits, pair_accepted, pair_call}
use Rattle.rules.specs.Rules.Demands.{Exact, Unaltered, AlikeOn, second_state, RunAreas, SamePlain}
use Rattle.rules.specs.Rules.Promises.{PairPromise}
use Rattle.rules.specs.Rules.TestLoads.{new_words, new_state, TestLoadAreas, own_run_alone, new_state_run, test_load_accepted, test_load_refused, state_fits}
use Rattle.rules.specs.Rules.TestLoads.{test_load_parsed, fixed_test_load_call, test_load_call}
use Rattle.rules.specs.Rules.TestLoadPromises.{new_bytes, OwnRun, NewStateMade, OwnRunAlone, TestLoadPromise}
use Rattle.rules.proofs.Theorems.PlainRun.{demand2}
use Rattle.rules.proofs.Theorems.PlainSecrecy.{same-plain_runs}
use Rattle.rules.proofs.Theorems.JobLaws.{passed, job-init, job-public, init-locations, init-most}
use Rattle.rules.proofs.Theorems.Costs.{tabled-accepted, tabled-refused, tabled-rejected, ones_tabled}
use Rattle.rules.proofs.Theorems.FileBounds.{wrong_paths_bounded}
use Rattle.rules.proofs.Theorems.CallLaws.{Runs, result, call_runs, carried_out, left_alone, exact-unaltered}
use Rattle.rules.proofs.Theorems.PairLaws.{same-words_self, found_alike, Chosen, chosen-fits, long-enough, run_room, Pairs, finished-stop}
use Rattle.rules.proofs.Theorems.PairLaws.{pair_runs, same-plain}
use Rattle.rules.proofs.Theorems.Promises.{same-exact, pair-promise}
use Rattle.rules.proofs.Theorems.EncodedWords.{length-word_bytes}
use Rattle.rules.proofs.Theorems.NewStates.{length-new_words, new-kept, read-new}
use Rattle.rules.proofs.Theorems.Outcomes.{refused-done}

-- ---- the words of a new state
-- there are as many as the job has
length-new_state : (job : Job) (own : Result) (seed : ℕ) → length (new_state job own seed) ≡ length job.init
unfolding new_state
length-new_state job own seed = length-new_words (union job.public own.gathered.plain) 0 seed job.init

-- those at the public locations and in the plain set are the job's own
new-alike : (job : Job) (own : Result) (seed : ℕ) (s : LocationSet) → Within s (union job.public own.gathered.plain)
    → AlikeOn s job.init (new_state job own seed)
unfolding new_state
new-alike job own seed s w =
    let kept = union job.public own.gathered.plain in
    record { same = λ l m. sym (new-kept kept 0 seed job.init l (rw (zero-add l) (w.each l m))) }

-- ---- the word on a pair that is alike at the public locations, and on one with the same plain trace
not_apart : (c f p s : Bool) → c ≡ true → first_that_fits c f p s ≢ words.NotComparable
not_apart c f p s h q = true≢false (sym h ∙ subst (λ (w : PairWord). Chosen w c f p s) q (chosen-fits c f p s))

not_plain : (c f p s : Bool) → p ≡ true → first_that_fits c f p s ≢ words.PlainDiffers
not_plain c f p s h q = true≢false (sym h ∙ (subst (λ (w : PairWord). Chosen w c f p s) q (chosen-fits c f p s)).2)

-- ---- a test load that is carried out
pub record TestLoads (f : List ℕ) (seed : ℕ) (costs : List ℕ) (a : TestLoadAreas) : Type 0 where
  pub read : Job
  pub parsed : parse f ≡ accepted read
  pub table : costs_fit costs ≡ true
  pub enough : pair_fits a.pair ≡ true
  pub seeded : eqb seed 0 ≡ false
  pub fits : state_fits read a ≡ true

module _ {f : List ℕ} {seed : ℕ} {costs : List ℕ} {a : TestLoadAreas} (r : TestLoads f seed costs a) where
  -- the job with its table
  abbrev job : Job
  job = with_costs r.read costs

  -- it passes the tests, in their order
  test_load_runs : test_load_call f seed costs a ≡ test_load_accepted job seed a
  unfolding test_load_call test_load_parsed state_fits
  test_load_runs =
      let l : state_fits job a ≡ true = r.fits in
      rw (tabled-accepted f costs r.read r.parsed r.table, r.enough, r.seeded, l, test_load_parsed)

  -- the room for each trace
  abbrev k : ℕ
  k = room a.pair.first

  -- the job's own run
  abbrev own : Result
  own = mispredicting_run job k

  -- the words of the new state, their bytes, and the job with them
  abbrev vs : List ℕ
  vs = new_state job own seed

  abbrev second : List ℕ
  second = word_bytes vs

  abbrev other : Job
  other = with_state job vs

  -- where the own run has not finished it is all that is done; else the pair is checked
  pub test_load_unfinished : is_finished own.stop ≡ false → test_load_call f seed costs a ≡ own_run_alone own a
  unfolding test_load_accepted
  test_load_unfinished e = test_load_runs ∙ rw (e, test_load_accepted)

  pub test_load_finished : is_finished own.stop ≡ true → test_load_call f seed costs a ≡ new_state_run job vs a
  unfolding test_load_accepted
  test_load_finished e = test_load_runs ∙ rw (e, test_load_accepted)

  -- ---- the bytes of the new state: 8 a location
  second-size : length second ≡ 8 * length job.init
  second-size = length-word_bytes vs ∙ ap (λ (n : ℕ). 8 * n) (length-new_state job own seed)

  init-size : length job.init ≡ locations (trailer f)
  init-size = init-locations (passed f r.read r.parsed)

  -- they stand at the front of their area
  new-front : new_bytes f (new_state_run job vs a).areas ≡ second
  unfolding new_bytes new_state_run pair_accepted written
  new-front = take_at second _ (8 * locations (trailer f)) (second-size ∙ ap (λ (n : ℕ). 8 * n) init-size)

  -- with them the areas are those of a pair that is compared
  abbrev pair : Pairs f second costs a.pair
  pair = record {
    read = r.read;
    parsed = r.parsed;
    fits = r.table;
    sized = unfold second_state_fits in eq-eqb (length second) (8 * length job.init) second-size;
    enough = r.enough;
  }

  -- ---- a run of the job in areas with the pair's room for the trace
  module _ {p : Areas} (h : RunAreas f a.pair p) where
    -- it is carried out, and is the own run
    own_runs : Runs f costs p
    own_runs = record { read = r.read; parsed = r.parsed; fits = r.table; enough = long-enough h r.read init-size }

    same-own : result own_runs ≡ own
    unfolding own_runs
    same-own = ap (mispredicting_run job) (run_room h)

    own_call : run_call f costs p ≡ record { answer = run_report job own; areas = areas_after own p }
    unfolding own_runs
    own_call =
        call_runs own_runs ∙ ap (λ (x : Result). record { answer = run_report job x; areas = areas_after x p }) same-own

  -- ---- where the own run has not finished
  -- the counts and the trace of the own run
  own-run : {after : TestLoadAreas} → after.pair.first ≡ written (trace_words own.gathered.trace) a.pair.first
      → OwnRun f costs a (counts own) (verdict job own) after
  unfolding run_report areas_after
  own-run e = record { outcome = λ p h. rw (own_call h); trace = λ p h t. rw (own_call h, t, e) }

  unfinished_alone : is_finished own.stop ≡ false → OwnRunAlone f costs a (counts own) (own_run_alone own a).areas
  unfolding own_run_alone counts verdict judge
  unfinished_alone e = record {
    own = rw e at (own-run {after = (own_run_alone own a).areas} refl);
    stopped = λ s. true≢false (sym (ap is_finished s) ∙ e);
    second = refl;
    state = refl;
  }

  -- ---- where it has finished: the new state
  module _ (e : is_finished own.stop ≡ true) where
    -- "the plain trace of the new state is the same": the plain run has the plain set of the own run
    same-trace : (plain_run job k).gathered.trace ≡ (plain_run other k).gathered.trace
    same-trace =
        let kept : AlikeOn (plain_run job k).gathered.plain job.init vs =
        rw (demand2 job k (finished-stop own.stop e)).plain
        (new-alike job own seed own.gathered.plain (within-right job.public own.gathered.plain)) in
        let same = same-plain_runs job k vs (init-most (passed f r.read r.parsed)) (sym (length-new_state job own seed)) kept in
        ap (λ (g : Gathered). g.trace) same.gathered

    -- the tests of the word on the pair: alike at the public locations, and the same plain trace
    abbrev alike : Bool
    alike = alike_from job.public 0 job.init vs

    abbrev plainly : Bool
    plainly = same_trace (plain_run job k).gathered.trace (plain_run other k).gathered.trace

    is_alike : alike ≡ true
    is_alike =
        let kept = new-alike job own seed job.public (within-left job.public own.gathered.plain) in
        found_alike job.public 0 job.init vs (sym (length-new_state job own seed)) (λ j m. kept.same j (rw (zero-add j) at m))

    is_plainly : plainly ≡ true
    unfolding same_trace
    is_plainly = rw (← same-trace) (same-words_self (trace_words (plain_run job k).gathered.trace))

    -- so that two of the words are never given
    abbrev finished : Bool
    finished = is_finished own.stop && is_finished (mispredicting_run other k).stop

    abbrev fully : Bool
    fully = same_trace own.gathered.trace (mispredicting_run other k).gathered.trace

    never_apart : pair_word job vs k ≢ words.NotComparable
    unfolding pair_word
    never_apart = not_apart alike finished plainly fully is_alike

    never_plain : pair_word job vs k ≢ words.PlainDiffers
    unfolding pair_word
    never_plain = not_plain alike finished plainly fully is_plainly

    -- ---- the check of the pair, on the bytes of the new state: they are read as its words
    module _ (all : Bytes f) (lt : seed < 2 ^ 64) where
      second-read : words_at (length job.init) second 0 ≡ vs
      unfolding new_state state_of
      second-read =
          let e = job-init (passed f r.read r.parsed) in
          let kept = union job.public own.gathered.plain in
          let n = locations (trailer f) in
          ap (λ (m : ℕ). words_at m second 0) init-size ∙ ap (λ (ws : List ℕ). words_at n (word_bytes (new_words kept 0 seed ws)) 0) e
          ∙ read-new kept seed n f (trailer f).state all lt ∙ ap (new_words kept 0 seed) (sym e)

      second-words : second_state f second ≡ vs
      unfolding second_state
      second-words = ap (λ (n : ℕ). words_at n second 0) (sym init-size) ∙ second-read

      -- the pair call on them answers and leaves what the test load does
      pair-call : pair_call f second costs a.pair ≡ pair_accepted job vs a.pair
      pair-call = pair_runs pair ∙ ap (λ (ws : List ℕ). pair_accepted job ws a.pair) second-read

      pair-kept : PairPromise f second costs a.pair (Ok (paired (pair_word job vs k) (counts own) (counts (mispredicting_run other k))))
          (pair_after own (mispredicting_run other k) a.pair)
      unfolding pair_accepted
      pair-kept = pair-promise f second costs a.pair (record { answer = rw pair-call; areas = rw pair-call })

      -- what the new state has in common with the job's
      alike_in : (s s' : LocationSet) → s ≡ s' → Within s' (union job.public own.gathered.plain)
          → AlikeOn s (state_of (trailer f) f) (second_state f second)
      alike_in s s' d w = rw (d, second-words, ← job-init (passed f r.read r.parsed)) (new-alike job own seed s' w)

      -- and the plain trace
      same-plainly : SamePlain f second a.pair
      same-plainly = same-plain pair (rw second-read (unfold same_trace in is_plainly))

      -- the promise of a new state
      made : NewStateMade f costs a (pair_word job vs k) (counts own) (counts (mispredicting_run other k)) (new_state_run job vs a).areas
      unfolding new_state_run pair_accepted pair_after
      made = record {
        verdict = verdict job own;
        own = own-run refl;
        finished = unfold counts in finished-stop own.stop e;
        public = rw new-front
            (alike_in _ job.public (sym (job-public (passed f r.read r.parsed))) (within-left job.public own.gathered.plain));
        plain = λ p h.
            rw new-front
            (alike_in (run_call f costs p).answer.plain own.gathered.plain (unfold run_report in rw (own_call h))
            (within-right job.public own.gathered.plain));
        plainly = rw new-front same-plainly;
        checked = rw new-front pair-kept;
        comparable = never_apart;
        same-plain = never_plain;
      }

-- ---- every call is refused, or makes a new state, or runs the job alone
data LoadView (f : List ℕ) (seed : ℕ) (costs : List ℕ) (a : TestLoadAreas) : Type 0 where
  new-state : (r : TestLoads f seed costs a) → is_finished (own r).stop ≡ true → LoadView f seed costs a
  own_alone : (r : TestLoads f seed costs a) → is_finished (own r).stop ≡ false → LoadView f seed costs a
  refused : (n : Refusal) → test_load_call f seed costs a ≡ test_load_refused n a → LoadView f seed costs a

load_view : (f : List ℕ) (seed : ℕ) (costs : List ℕ) (a : TestLoadAreas) → LoadView f seed costs a
unfolding test_load_call test_load_parsed state_fits
load_view f seed costs a = go (parse f) refl
  where
    ran : (r : TestLoads f seed costs a) (b : Bool) → is_finished (own r).stop ≡ b → LoadView f seed costs a
    ran r true e = new-state r e
    ran r false e = own_alone r e

    -- 10, then 13, then 12
    tests : (job : Job) → parse f ≡ accepted job → costs_fit costs ≡ true → (b z s : Bool) → pair_fits a.pair ≡ b → eqb seed 0 ≡ z
        → state_fits job a ≡ s → LoadView f seed costs a
    tests job q c false z s e n l = refused refusals.Areas (rw (tabled-accepted f costs job q c, e, test_load_parsed))
    tests job q c true true s e n l = refused refusals.Seed (rw (tabled-accepted f costs job q c, e, n, test_load_parsed))
    tests job q c true false false e n l =
        let l' : state_fits (with_costs job costs) a ≡ false = l in
        refused refusals.Output (rw (tabled-accepted f costs job q c, e, n, l', test_load_parsed))
    tests job q c true false true e n l =
        let r : TestLoads f seed costs a = record { read = job; parsed = q; table = c; enough = e; seeded = n; fits = l } in
        ran r (is_finished (own r).stop) refl

    -- 14 before them
    table : (job : Job) → parse f ≡ accepted job → (b : Bool) → costs_fit costs ≡ b → LoadView f seed costs a
    table job q true c = tests job q c (pair_fits a.pair) (eqb seed 0) (state_fits job a) refl refl refl
    table job q false c = refused refusals.Costs (rw (tabled-refused f costs job q c, test_load_parsed))

    go : (P : Parsed) → parse f ≡ P → LoadView f seed costs a
    go (rejected n) q = refused n (rw (tabled-rejected f costs n q, test_load_parsed))
    go (accepted job) q = table job q (costs_fit costs) refl

-- an answer is one of the three only
unfinished-compared : {P : Type 0} {m : Counts} {x : Compared} → ◌≡◌ {A = TestLoadAnswer} (Ok (loads.Undecided m)) (Ok (loads.Compared x)) → P
unfinished-compared {P} {m} {x} e = absurd (let z : ◌≡◌ {A = ℕ} 0 1 = cc in omega arith)

same-compared : {x y : Compared} → ◌≡◌ {A = TestLoadAnswer} (Ok (loads.Compared x)) (Ok (loads.Compared y)) → x ≡ y
same-compared {x} {y} e = cc

-- ---- the fields of the promise
-- a refusal leaves every area as it was
load-unaltered : (f : List ℕ) (seed : ℕ) (costs : List ℕ) (a : TestLoadAreas)
    → Unaltered test_load_refusal (test_load_call f seed costs a).answer a (test_load_call f seed costs a).areas
load-unaltered f seed costs a = go (load_view f seed costs a)
  where
    go : LoadView f seed costs a → Unaltered test_load_refusal (test_load_call f seed costs a).answer a (test_load_call f seed costs a).areas
    go (new-state r e) = carried_out test_load_refusal (test_load_call f seed costs a) a (unfold new_state_run pair_accepted in rw (test_load_finished r e))
    go (own_alone r e) = carried_out test_load_refusal (test_load_call f seed costs a) a (unfold own_run_alone in rw (test_load_unfinished r e))
    go (refused m q) = left_alone test_load_refusal (test_load_call f seed costs a) a (unfold test_load_refused in rw q)

-- an answer on two runs comes of a new state
load-compared : (f : List ℕ) (seed : ℕ) (costs : List ℕ) (a : TestLoadAreas) → Bytes f → seed < 2 ^ 64 → {word : PairWord} {n n' : Counts}
    → (test_load_call f seed costs a).answer ≡ Ok (loads.Compared (paired word n n')) → NewStateMade f costs a word n n' (test_load_call f seed costs a).areas
load-compared f seed costs a all lt {word} {n} {n'} = go word n n' (load_view f seed costs a)
  where
    go : (w : PairWord) (n n' : Counts) → LoadView f seed costs a → (test_load_call f seed costs a).answer ≡ Ok (loads.Compared (paired w n n'))
        → NewStateMade f costs a w n n' (test_load_call f seed costs a).areas
    go w n n' (refused m q) h = unfold test_load_refused in refused-done (rw q at h)
    go w n n' (own_alone r e) h = unfold own_run_alone in unfinished-compared (rw (test_load_unfinished r e) at h)
    go w n n' (new-state r e) h =
        unfold new_state_run pair_accepted in
        let x : Ok (loads.Compared (paired (pair_word (job r) (vs r) (k r)) (counts (own r)) (counts (mispredicting_run (other r) (k r)))))
        ≡ Ok (loads.Compared (paired w n n')) = rw (test_load_finished r e) at h in
        let s = same-compared x in
        let x₀ : pair_word (job r) (vs r) (k r) ≡ w = ap (λ (y : Compared). y.word) s in
        let x₁ : counts (own r) ≡ n = ap (λ (y : Compared). y.first) s in
        let x₂ : counts (mispredicting_run (other r) (k r)) ≡ n' = ap (λ (y : Compared). y.second) s in
        rw (← x₀, ← x₁, ← x₂, test_load_finished r e) (made r e all lt)

-- an answer on one run comes of a run that has not finished
load-unfinished : (f : List ℕ) (seed : ℕ) (costs : List ℕ) (a : TestLoadAreas) {n : Counts} → (test_load_call f seed costs a).answer ≡ Ok (loads.Undecided n)
    → OwnRunAlone f costs a n (test_load_call f seed costs a).areas
load-unfinished f seed costs a {n} = go n (load_view f seed costs a)
  where
    go : (n : Counts) → LoadView f seed costs a → (test_load_call f seed costs a).answer ≡ Ok (loads.Undecided n)
        → OwnRunAlone f costs a n (test_load_call f seed costs a).areas
    go n (refused m q) h = unfold test_load_refused in refused-done (rw q at h)
    go n (new-state r e) h = unfold new_state_run pair_accepted in unfinished-compared (sym (rw (test_load_finished r e) at h))
    go n (own_alone r e) h =
        unfold own_run_alone in
        let x : Ok (loads.Undecided (counts (own r))) ≡ Ok (loads.Undecided n) = rw (test_load_unfinished r e) at h in
        let y : counts (own r) ≡ n = cc in
        rw (← y, test_load_unfinished r e) (unfinished_alone r e)

-- "a table of eight ones gives every earlier answer"
ones_load : (f : List ℕ) (seed : ℕ) (a : TestLoadAreas) → test_load_call f seed window_costs a ≡ fixed_test_load_call f seed a
unfolding test_load_call fixed_test_load_call
ones_load f seed a = ap (λ (P : Parsed). test_load_parsed P seed a) (ones_tabled f)

-- ---- the promise
pub test_load_promise : (f : List ℕ) (seed : ℕ) (costs : List ℕ) (a : TestLoadAreas) {r : TestLoadAnswer} {after : TestLoadAreas}
    → Bytes f → seed < 2 ^ 64 → Exact (test_load_call f seed costs a) r after → TestLoadPromise f seed costs a r after
test_load_promise f seed costs a all lt x = record {
  exact = x;
  unaltered = exact-unaltered test_load_refusal (test_load_call f seed costs a) a x (load-unaltered f seed costs a);
  compared = λ h. rw x.areas (load-compared f seed costs a all lt (sym x.answer ∙ h));
  unfinished = λ h. rw x.areas (load-unfinished f seed costs a (sym x.answer ∙ h));
  fixed = λ e. same-exact (ap (λ (cs : List ℕ). test_load_call f seed cs a) e ∙ ones_load f seed a) x;
  bounded = wrong_paths_bounded f costs;
}
