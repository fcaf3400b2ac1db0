-- How the run of a state is put together, and how the run of a job in lent areas comes from it.
-- Assumes nothing.
use mathlib.Core.Path.{◌≡◌, refl, sym, ap, ◌∙◌, subst}
use mathlib.Core.Bool.{Bool, true, false}
use mathlib.Core.List.{List, ◌++◌}
use Prim.Native.Nat.{ℕ, ◌+◌, ◌-◌, ◌≤◌}
use native.Mathlib.Omega.{arith}
use lib.Dec.{leb}
use lib.ListN.{length, take, drop, replicate, length-take, length-replicate}
use lib.Seq.{sets, length-sets}
use borrow.Author.Tests.{leb-true, leb-false, le-leb, lt-leb}
use Rattle.location.specs.Sets.{limit}
use Rattle.location.specs.SetLaws.{and_right}
use Rattle.rules.specs.declared.Trailer.{Trailer}
use Rattle.rules.specs.Rules.Limits.{max_bytes, trailer_size}
use Rattle.rules.specs.Rules.Plain.{State, first_state}
use Rattle.rules.specs.Rules.Runs.{Job}
use Rattle.rules.specs.Rules.JobFile.{got, accepted, parse, trailer, sized, locations, words_at, program, program_of}
use Rattle.rules.specs.Rules.Calls.{lent, table_size, end_words, written, working_words, room, areas_after}
use Rattle.rules.specs.Rules.Pairs.{with_state}
use Rattle.rules.specs.Rules.Costs.{costs_fit, with_costs}
use Rattle.rules.specs.Theorems.Readers.{readable}
use Rattle.rules.proofs.Theorems.Costs.{fit_length, fit-positive}
use Rattle.rules.proofs.Theorems.JobLaws.{passed}
use Rattle.descriptor.specs.Descriptors.{offsets}
use Rattle.program.specs.Words.{words_from, length-words}
use Rattle.program.specs.Programs.{program_in, Describes, table-written}
use Rattle.job.specs.Answers.{Accepts}
use Rattle.work.specs.Layout.{labels, label_base, cost_base}
use Rattle.work.specs.Words.{costs_in}
use Rattle.work.specs.Machines.{state_in}
use Rattle.work.proofs.Ranges.{drop_past, drop-sets}
use Rattle.work.proofs.States.{state-past}
use Rattle.work.proofs.Costs.{costs-stored, costs-kept}
use Rattle.transfer.specs.Loads.{StateLoaded, state-loaded_after}
use Rattle.execution.specs.declared.Mode.{Mode}
use Rattle.execution.specs.declared.Mode.TheVariants as modes
use Rattle.execution.specs.declared.Ran.{Ran}
use Rattle.execution.specs.Running.{Loaded, EndsAs, RanTo}
use Rattle.execution.specs.Starts.{whole, whole_mispredicting, whole_plain}
use Rattle.job_run.specs.Accepted.{accepted-limits, accepted-state}
use Rattle.job_run.specs.JobRuns.{result_of, LoadedFor, RunOf, cleared, RunIn}
use Rattle.rules.specs.Theorems.Bounds.{PositiveCosts}

-- the part of a list that the code takes from 0 on
pub same-part : (n : ℕ) (xs : List ℕ) → take (n - 0) (drop 0 xs) ≡ take n xs
same-part n xs = let z : n - 0 ≡ n = omega arith in rw z

-- cleared words keep only those past them
pub cleared-same : (n : ℕ) (w before : List ℕ) → drop n w ≡ drop n before → written (replicate n 0) w ≡ written (replicate n 0) before
unfolding written
cleared-same n w before f =
    ap (λ (d : List ℕ). replicate n 0 ++ d)
    (ap (λ (k : ℕ). drop k w) (length-replicate {A = ℕ} n 0) ∙ f ∙ sym (ap (λ (k : ℕ). drop k before) (length-replicate {A = ℕ} n 0)))

-- ---- the words of the labels, written into the words w
sized-most : (bs : List ℕ) → sized (length bs) ≡ true → length bs ≤ max_bytes
unfolding sized
sized-most bs h = leb-true (length bs) max_bytes (and_right (leb trailer_size (length bs)) (leb (length bs) max_bytes) h)

-- the program of an accepted job was read, and its offsets fit in their words
module _ {bs : List ℕ} {t : Trailer} (k : Accepts bs t) where
  program-got : (job : Job) (e : parse bs ≡ accepted job)
      → program t.count t.count 0 (take t.state bs) 0 ≡ got job.code.prog (passed bs job e).next
  unfolding program_of
  program-got job e = rw k.trailer (passed bs job e).read

  program-size : length (take t.state bs) ≤ offsets
  program-size =
      let s = sized-most bs (passed bs k.job k.parsed).sized in
      let l = length-take t.state bs in
      omega arith

  pub program-accepted : {p : List ℕ} → p ≡ take t.state bs → (readable (program t.count t.count 0 p 0) ≡ true) × (length p ≤ offsets)
  unfolding readable
  program-accepted ep = (rw (ep, program-got k.job k.parsed), rw ep program-size)

-- What stands in the words w₁ before the labels' words are written, which were w: the state, and the table of costs.
pub record Prepared (states : List ℕ) (at n : ℕ) (costs w w₁ : List ℕ) : Type 0 where
  pub state : state_in w₁ n ≡ first_state (words_at n states at)
  pub table : costs_in (drop labels w₁) ≡ costs
  pub past : drop working_words w₁ ≡ drop working_words w
  pub size : length w₁ ≡ length w

pub prepared : {states : List ℕ} {at n : ℕ} {costs w w₁ w₂ : List ℕ} → n ≤ limit → costs_fit costs ≡ true → working_words ≤ length w
    → StateLoaded states at n w w₁ → w₂ ≡ sets w₁ cost_base costs → Prepared states at n costs w w₂
prepared {n = n} {costs} {w} {w₁} {w₂} h f room s ew =
    let l = fit_length costs f in
    let z = s.size in
    record {
      state = ap (λ (u : List ℕ). state_in u n) ew ∙ state-past costs w₁ cost_base n h (omega arith) ∙ s.state;
      table = ap (λ (u : List ℕ). costs_in (drop labels u)) ew ∙ costs-stored w₁ costs l (omega arith);
      past = ap (drop working_words) ew ∙ drop-sets costs w₁ cost_base working_words (omega arith)
          ∙ state-loaded_after s h working_words (omega arith);
      size = ap length ew ∙ length-sets w₁ cost_base costs ∙ s.size;
    }

module _ {bs : List ℕ} {t : Trailer} (k : Accepts bs t) (w : List ℕ) {p w' : List ℕ} (ep : p ≡ take t.state bs)
    (fits : label_base t.count ≤ length w)
    (ew : w' ≡ sets w labels (words_from t.count p 0)) where
  -- they describe the job's program
  described : (job : Job) → parse bs ≡ accepted job
      → (program_in p t.count (drop labels w') ≡ job.code.prog) × Describes p t.count (drop labels w')
  described job e = rw (ew, ep) (table-written t.count (take t.state bs) (program-got k job e) (program-size k) w labels fits)

  -- behind them the table of costs is kept
  table_kept : costs_in (drop labels w') ≡ costs_in (drop labels w)
  table_kept =
      let m = (accepted-limits k).count_most in
      let s = length-words t.count p 0 in
      ap (λ (u : List ℕ). costs_in (drop labels u)) ew ∙ costs-kept (words_from t.count p 0) w labels (omega arith)

  job-loaded : PositiveCosts (costs_in (drop labels w)) → Loaded p t w'
  job-loaded c = record { limits = accepted-limits k; described = (described k.job k.parsed).1; costs = rw table_kept c }

  -- the state's words stand before them
  state-kept : (n : ℕ) → n ≤ limit → state_in w' n ≡ state_in w n
  state-kept n h = ap (λ (u : List ℕ). state_in u n) ew ∙ state-past (words_from t.count p 0) w labels n h (omega arith)

  past-kept : drop working_words w' ≡ drop working_words w
  past-kept =
      let m = (accepted-limits k).count_most in
      let s = length-words t.count p 0 in
      ap (drop working_words) ew ∙ drop-sets (words_from t.count p 0) w labels working_words (omega arith)

  size-kept : length w' ≡ length w
  size-kept = ap length ew ∙ length-sets w labels (words_from t.count p 0)

  -- the whole run from there is the rules' run of the job with the table and the state that were loaded
  module _ (job : Job) (e : parse bs ≡ accepted job) (a vs : List ℕ) {costs : List ℕ} (h : state_in w (locations t) ≡ first_state vs)
      (c : costs_in (drop labels w) ≡ costs) where
    same-result : (mode : Mode) → whole p t mode w' a ≡ result_of mode (with_state (with_costs job costs) vs) (room a)
    same-result mode = rw k.trailer (go mode)
      where
        holds : state_in w' (locations (trailer bs)) ≡ first_state vs
        holds = rw k.trailer at (state-kept (locations t) (let m = (accepted-limits k).cells in omega arith) ∙ h)

        table : program_in p (trailer bs).count (drop labels w') ≡ job.code.prog
        table = rw k.trailer at (described job e).0

        go : (mode : Mode) → whole p (trailer bs) mode w' a ≡ result_of mode (with_state (with_costs job costs) vs) (room a)
        go modes.Plain = whole_plain (passed bs job e) p w' a vs costs table holds (table_kept ∙ c)
        go modes.Mispredicting = whole_mispredicting (passed bs job e) p w' a vs costs table holds (table_kept ∙ c)

-- ---- the run of a state
-- what is loaded, in the words w₁ with the state and the table
loaded : {bs p : List ℕ} {t : Trailer} {states : List ℕ} {at n : ℕ} {costs w w₁ w₂ : List ℕ} (k : Accepts bs t) → p ≡ take t.state bs
    → label_base t.count ≤ length w₁ → costs_fit costs ≡ true → Prepared states at n costs w w₁ → w₂ ≡ sets w₁ labels (words_from t.count p 0)
    → working_words ≤ length w → Loaded p t w₂ × (working_words ≤ length w₂)
loaded {costs = costs} {w₁ = w₁} k ep h f s ew m = (
  job-loaded k w₁ ep h ew (rw s.table (fit-positive costs f)),
  let a = size-kept k w₁ ep h ew in let b = s.size in omega arith,
)

run_of : {bs p : List ℕ} {t : Trailer} {mode : Mode} {states : List ℕ} {at : ℕ} {costs w w₁ w₂ w' a a' : List ℕ} {r : Ran} (k : Accepts bs t)
    → p ≡ take t.state bs → label_base t.count ≤ length w₁ → Prepared states at (locations t) costs w w₁
    → w₂ ≡ sets w₁ labels (words_from t.count p 0) → RanTo t w₂ a w' a' r (whole p t mode w₂ a)
    → RunOf bs t mode costs states at w w' a a' r
run_of {t = t} {mode} {states} {at} {w₁ = w₁} {w₂} {w'} {a} {a'} {r} k ep h s ew o = record {
  ran = λ job e.
      subst (EndsAs t a w' a' r) (same-result k w₁ ep h ew job e a (words_at (locations t) states at) s.state s.table mode) o.ends;
  past = drop_past w' w₂ labels working_words (omega arith) o.frame ∙ past-kept k w₁ ep h ew ∙ s.past;
  size = o.size ∙ size-kept k w₁ ep h ew ∙ s.size;
}

pub loaded_for : {bs p : List ℕ} {t : Trailer} {states : List ℕ} {at : ℕ} {costs w w₁ w₂ : List ℕ} → Accepts bs t → p ≡ take t.state bs
    → label_base t.count ≤ length w₁ → costs_fit costs ≡ true → Prepared states at (locations t) costs w w₁
    → w₂ ≡ sets w₁ labels (words_from t.count p 0) → working_words ≤ length w → LoadedFor bs t costs states at w w₂
loaded_for {bs} {t = t} {w₁ = w₁} {w₂} k ep h f s ew m = record {
  ready = λ p e. loaded k e h f s (same p e) m;
  runs = λ mode p w' a a' r e o. run_of k e h s (same p e) o;
}
  where
    same : (p : List ℕ) → p ≡ take t.state bs → w₂ ≡ sets w₁ labels (words_from t.count p 0)
    same p e = ew ∙ ap (λ (q : List ℕ). sets w₁ labels (words_from t.count q 0)) (ep ∙ sym e)

-- ---- the run of a job
module _ {bs : List ℕ} {t : Trailer} (k : Accepts bs t) (mode : Mode) {costs w w' a a' : List ℕ} {r : Ran} where
  -- with the job's own state
  pub own-run : RunOf bs t mode costs bs t.state w w' a a' r → (job : Job) → parse bs ≡ accepted job
      → EndsAs t a w' a' r (result_of mode (with_costs job costs) (room a))
  own-run o job p =
      let own = accepted-state (record { job = job; parsed = p; trailer = k.trailer }) costs in
      subst (λ (j : Job). EndsAs t a w' a' r (result_of mode j (room a))) own (o.ran job p)

  pub run_in : {e e' : List ℕ} → RunOf bs t mode costs bs t.state w w' a a' r → e' ≡ written (end_words (state_in w' (locations t))) e
      → working_words ≤ length w → RunIn bs t mode costs (lent a e w) (lent a' e' w') r
  unfolding areas_after
  run_in {e} {e'} o ee h = record {
    reports = λ job p. (own-run o job p).reports;
    firsts = λ job p. (own-run o job p).firsts;
    areas = left;
    work = let s = o.size in omega arith;
  }
    where
      left : (job : Job) → parse bs ≡ accepted job → cleared (lent a' e' w') ≡ areas_after (result_of mode (with_costs job costs) (room a)) (lent a e w)
      left job p =
          let x = own-run o job p in
          λ i. record {
            trace = x.trace i;
            end = (ee ∙ ap (λ (σ : State). written (end_words σ) e) x.state) i;
            work = cleared-same working_words w' w o.past i;
          }
