-- How the pair's code meets the definition of the call: the two runs, the answer on them, and what is left in the areas.
-- Assumes nothing.
use mathlib.Core.Path.{◌≡◌, refl, sym, ap, ◌∙◌}
use mathlib.Core.Bool.{Bool, true, false}
use mathlib.Core.List.{List}
use Prim.{⊥}
use Prim.Native.Nat.{ℕ, ◌*◌, ◌/◌, ◌<◌, ◌≤◌}
use native.Mathlib.Omega.{arith}
use borrow.Author.Tests.{eq-eqb, ne_eqb, eqb-true, le-leb, lt-leb, leb-true}
use lib.Dec.{eqb, leb}
use lib.ListN.{length, take, replicate}
use lib.Seq.{take_at}
use Rattle.std.specs.Prelude.{Ok, Err}
use Rattle.location.specs.SetLaws.{and_left, and_right}
use Rattle.rules.specs.declared.Trailer.{Trailer}
use Rattle.rules.specs.declared.Counts.{Counts}
use Rattle.rules.specs.declared.Refusal.{Refusal}
use Rattle.rules.specs.declared.Refusal.TheVariants as refusals
use Rattle.rules.specs.declared.PairWord.{PairWord}
use Rattle.rules.specs.Rules.Outcomes.{paired}
use Rattle.rules.specs.Rules.Instructions.{Observation}
use Rattle.rules.specs.Rules.Runs.{Job, mispredicting_run}
use Rattle.rules.specs.Rules.JobFile.{accepted, parse, locations, words_at}
use Rattle.rules.specs.Rules.Calls.{trace_words, written, working_words, room, counts}
use Rattle.rules.specs.Rules.Pairs.{with_state, alike_from, pair_word, PairAreas, pair_lent, pair_after, pair_refused, second_state_fits, pair_fits, pair_accepted}
use Rattle.rules.specs.Rules.Pairs.{pair_tabled, pair_parsed, pair_call}
use Rattle.rules.specs.Rules.Costs.{costs_fit, with_costs}
use Rattle.rules.specs.Rules.Demands.{Exact}
use Rattle.rules.proofs.Theorems.RunLaws.{mispredicting_trace}
use Rattle.rules.proofs.Theorems.Costs.{tabled-accepted, tabled-refused}
use Rattle.rules.proofs.Theorems.CallLaws.{length-trace_words}
use Rattle.rules.proofs.Theorems.PairLaws.{Pairs, pair_runs}
use Rattle.window_costs.specs.declared.table.WindowCosts.{WindowCosts}
use Rattle.job.specs.declared.accepted.AcceptedJob.{AcceptedJob}
use Rattle.job.specs.Answers.{Accepts, accepts}
use Rattle.execution.specs.declared.Mode.TheVariants as modes
use Rattle.execution.specs.declared.Ran.{Ran}
use Rattle.execution.specs.Running.{EndsAs}
use Rattle.execution.proofs.TraceArea.{written-length}
use Rattle.job_run.specs.Accepted.{accepted-size, accepted-public, accepted-init}
use Rattle.job_run.specs.JobRuns.{RunFrom}
use Rattle.job_run.proofs.Laws.{cleared-same, own-run}
use Rattle.judgement.specs.Words.{pair_word_of, word_same}
use Rattle.pair.specs.declared.SecondRun.{SecondRun}
use Rattle.pair.specs.Runs.{word_on, Ready, Comparable, OwnRunOf, LeftBy, OwnRan, SecondOf, SecondRan}

-- ---- the areas
module _ (a b w : List ℕ) where
  pub work_short : length w < working_words → leb working_words (length w) ≡ pair_fits (pair_lent a b w)
  unfolding pair_fits
  work_short h = rw (lt-leb working_words (length w) h)

  pub traces_decide : working_words ≤ length w → eqb (length a) (length b) ≡ pair_fits (pair_lent a b w)
  unfolding pair_fits
  traces_decide h = sym (rw (le-leb working_words (length w) h))

  pub areas-enough : working_words ≤ length w → length a ≡ length b → pair_fits (pair_lent a b w) ≡ true
  unfolding pair_fits
  areas-enough h e = rw (le-leb working_words (length w) h, eq-eqb (length a) (length b) e)

  fit-work : pair_fits (pair_lent a b w) ≡ true → working_words ≤ length w
  unfolding pair_fits
  fit-work h = leb-true working_words (length w) (and_left (leb working_words (length w)) (eqb (length a) (length b)) h)

  fit-traces : pair_fits (pair_lent a b w) ≡ true → length a ≡ length b
  unfolding pair_fits
  fit-traces h = eqb-true (length a) (length b) (and_right (leb working_words (length w)) (eqb (length a) (length b)) h)

-- areas that fit
pub ready_by : (a b w : List ℕ) → pair_fits (pair_lent a b w) ≡ true → Ready a b w
ready_by a b w fit = record { work = fit-work a b w fit; traces = fit-traces a b w fit }

-- ---- a run that has ended: what it wrote fits, and stands from the front
module _ {t : Trailer} {a w a' : List ℕ} {r : Ran} (job : Job) (e : EndsAs t a w a' r (mispredicting_run job (room a))) where
  abbrev trace : List Observation
  trace = (mispredicting_run job (room a)).gathered.trace

  counted : r.counts.observations ≡ length trace
  unfolding counts
  counted = ap (λ (n : Counts). n.observations) e.reports.counts

  fits : 2 * length trace ≤ length a
  unfolding room
  fits = let b = mispredicting_trace job (room a) in omega arith

  same_length : length a' ≡ length a
  same_length =
      ap length e.trace ∙ written-length (trace_words trace) a (let n = length-trace_words trace in let f = fits in omega arith)

  pub observed-fits : 2 * r.counts.observations ≤ length a'
  observed-fits = let c = counted in let f = fits in let g = same_length in omega arith

  pub observed-words : take (2 * r.counts.observations) a' ≡ trace_words trace
  unfolding written
  observed-words =
      ap (λ (n : ℕ). take (2 * n) a') counted ∙ ap (take (2 * length trace)) e.trace
      ∙ take_at (trace_words trace) _ (2 * length trace) (length-trace_words trace)

  pub same-room : room a' ≡ room a
  unfolding room
  same-room = ap (λ (n : ℕ). n / 2) same_length

  left_there : LeftBy (mispredicting_run job (room a')) r.counts a'
  left_there = rw same-room (record { counts = e.reports.counts; trace = observed-words })

-- the job's own run, as its code has made it
module _ (j : AcceptedJob) (table : WindowCosts) {w w' a a' : List ℕ} {r : Ran} (o : OwnRunOf j table w w' a a' r) where
  pub own-ran : OwnRan j table r.counts a'
  own-ran = record { left = λ job p. left_there (with_costs job table.entries.now) (own-run (accepts j) modes.Mispredicting o job p) }

  -- after it the areas fit still
  pub ready_again : {b : List ℕ} → Ready a b w → Ready a' b w'
  ready_again q =
      let k = accepts j in
      record {
        work = let z = o.size in let h = q.work in omega arith;
        traces = same_length (with_costs k.job table.entries.now) (own-run k modes.Mispredicting o k.job k.parsed) ∙ q.traces;
      }

-- ---- the word on two runs, of what the code has found
pub word-found : (j : AcceptedJob) (second a b : List ℕ) (n n' : Counts) {word : PairWord} {alike : Bool}
    → alike ≡ alike_from j.public 0 (words_at (locations j.trailer) j.bytes.now j.trailer.state) (words_at (locations j.trailer) second 0)
    → word ≡ pair_word_of alike n.stop n'.stop (take (2 * n.observations) a) (take (2 * n'.observations) b)
    → word ≡ word_on j second n n' a b
word-found j second a b n n' ea ew =
    rw (ew, ea)

-- ---- the second run
module _ (j : AcceptedJob) (table : WindowCosts) {second a b w w₁ b' : List ℕ} {c : Counts} {r : Ran}
    (q : Comparable j second a b w) (own : OwnRan j table c a) (o : RunFrom j modes.Mispredicting table second 0 w w₁ b b' r) where
  abbrev bs : List ℕ
  bs = j.bytes.now

  abbrev t : Trailer
  t = j.trailer

  -- the words of the second state
  abbrev vs : List ℕ
  vs = words_at (locations t) second 0

  rooms : room b ≡ room a
  unfolding room
  rooms = ap (λ (n : ℕ). n / 2) (sym q.ready.traces)

  module _ (job : Job) (p : parse bs ≡ accepted job) where
    abbrev known : Accepts bs t
    known = record { job = job; parsed = p; trailer = j.read }

    -- the job with its table, and the same with the second state
    abbrev table_job : Job
    table_job = with_costs job table.entries.now

    abbrev other : Job
    other = with_state table_job vs

    second-ends : EndsAs t b w₁ b' r (mispredicting_run other (room b))
    second-ends = o.ran job p

    -- with the room of the first area
    second-counts : r.counts ≡ counts (mispredicting_run other (room a))
    second-counts = second-ends.reports.counts ∙ ap (λ (k : ℕ). counts (mispredicting_run other k)) rooms

    second-trace : take (2 * r.counts.observations) b' ≡ trace_words (mispredicting_run other (room a)).gathered.trace
    second-trace = observed-words other second-ends ∙ ap (λ (k : ℕ). trace_words (mispredicting_run other k).gathered.trace) rooms

    -- the word is that of the rules' two runs
    same_word : word_on j second c r.counts a b' ≡ pair_word table_job vs (room a)
    unfolding counts
    same_word =
        let l = own.left job p in
        let n = second-counts in
        (λ i. pair_word_of (alike_from ((j.listed ∙ accepted-public known) i) 0 (accepted-init known i) vs) (l.counts i).stop (n i).stop
        (l.trace i) (second-trace i))
        ∙ word_same table_job vs (room a)

    second-of : {word : PairWord} → word ≡ word_on j second c r.counts a b'
        → SecondOf table_job vs (room a) b b' (record { word = word; counts = r.counts })
    second-of er = record {
      word = er ∙ same_word;
      counts = second-counts;
      trace = second-ends.trace ∙ ap (λ (k : ℕ). written (trace_words (mispredicting_run other k).gathered.trace) b) rooms;
    }

  pub first_fits : 2 * c.observations ≤ length a
  unfolding room counts
  first_fits =
      let k = accepts j in
      let l = own.left k.job k.parsed in
      let x = with_costs k.job table.entries.now in
      let n : c.observations ≡ length (mispredicting_run x (room a)).gathered.trace = ap (λ (y : Counts). y.observations) l.counts in
      let m = mispredicting_trace x (room a) in omega arith

  pub second_fits : 2 * r.counts.observations ≤ length b'
  second_fits =
      let k = accepts j in
      observed-fits (other k.job k.parsed) (second-ends k.job k.parsed)

  pub second-ran : {w₂ : List ℕ} {word : PairWord} → w₂ ≡ written (replicate working_words 0) w₁
      → word ≡ word_on j second c r.counts a b'
      → SecondRan j second table (room a) b w b' w₂ (record { word = word; counts = r.counts })
  second-ran ew er = record {
    ran = λ job p. second-of job p er;
    work = ew ∙ cleared-same working_words w₁ w o.past;
  }

-- ---- both runs
module _ (j : AcceptedJob) (table : WindowCosts) {second a b w w₁ w₂ a' b' : List ℕ} {r : Ran} {s : SecondRun}
    (q : Comparable j second a b w) (o : OwnRunOf j table w w₁ a a' r) (x : SecondRan j second table (room a') b w₁ b' w₂ s) where
  abbrev mine : Accepts j.bytes.now j.trailer
  mine = accepts j

  -- the job with its table
  abbrev job : Job
  job = with_costs mine.job table.entries.now

  abbrev areas : PairAreas
  areas = pair_lent a b w

  compares : Pairs j.bytes.now second table.entries.now areas
  unfolding second_state_fits
  compares = record {
    read = mine.job;
    parsed = mine.parsed;
    sized = eq-eqb (length second) (8 * length job.init) (let z = accepted-size mine in let s = q.sized in omega arith);
    fits = table.fit;
    enough = areas-enough a b w q.ready.work q.ready.traces;
  }

  first_ends : EndsAs j.trailer a w₁ a' r (mispredicting_run job (room a))
  first_ends = own-run mine modes.Mispredicting o mine.job mine.parsed

  -- the words of the second state
  abbrev words : List ℕ
  words = words_at (length job.init) second 0

  second-there : SecondOf job words (room a) b b' s
  second-there = rw (← accepted-size mine, same-room job first_ends) at (x.ran mine.job mine.parsed)

  pub exact-compared : Exact (pair_call j.bytes.now second table.entries.now (pair_lent a b w)) (Ok (paired s.word r.counts s.counts)) (pair_lent a' b' w₂)
  unfolding pair_accepted pair_after compares
  exact-compared =
      let y = second-there in
      rw (pair_runs compares)
      (record {
        answer = λ i. Ok (paired (y.word i) (first_ends.reports.counts i) (y.counts i));
        areas = λ i. pair_lent (first_ends.trace i) (y.trace i) ((x.work ∙ cleared-same working_words w₁ w o.past) i);
      })

-- ---- refusals
module _ {bs : List ℕ} {t : Trailer} (k : Accepts bs t) (second costs a b w : List ℕ) where
  refused : (n : Refusal) → pair_call bs second costs (pair_lent a b w) ≡ pair_refused n (pair_lent a b w)
      → Exact (pair_call bs second costs (pair_lent a b w)) (Err n) (pair_lent a b w)
  unfolding pair_refused
  refused n e = rw e (record { answer = refl; areas = refl })

  unsized : (length second ≡ 8 * locations t → ⊥) → second_state_fits k.job second ≡ false
  unfolding second_state_fits
  unsized h = ne_eqb (length second) (8 * length k.job.init) (λ e. h (rw (accepted-size k) at e))

  sized : length second ≡ 8 * locations t → second_state_fits k.job second ≡ true
  unfolding second_state_fits
  sized s = let z = accepted-size k in eq-eqb (length second) (8 * length k.job.init) (omega arith)

  pub other-size : (length second ≡ 8 * locations t → ⊥)
      → Exact (pair_call bs second costs (pair_lent a b w)) (Err refusals.SecondState) (pair_lent a b w)
  unfolding pair_call pair_parsed
  other-size h = refused refusals.SecondState (rw (k.parsed, unsized h, pair_parsed))

  pub no_table : length second ≡ 8 * locations t → costs_fit costs ≡ false
      → Exact (pair_call bs second costs (pair_lent a b w)) (Err refusals.Costs) (pair_lent a b w)
  unfolding pair_call pair_parsed pair_tabled
  no_table s c = refused refusals.Costs (rw (tabled-refused bs costs k.job k.parsed c, k.parsed, sized s, pair_parsed, pair_tabled))

  pub unfit : length second ≡ 8 * locations t → costs_fit costs ≡ true → pair_fits (pair_lent a b w) ≡ false
      → Exact (pair_call bs second costs (pair_lent a b w)) (Err refusals.Areas) (pair_lent a b w)
  unfolding pair_call pair_parsed pair_tabled
  unfit s c h =
      refused refusals.Areas (rw (tabled-accepted bs costs k.job k.parsed c, k.parsed, sized s, h, pair_parsed, pair_tabled))
