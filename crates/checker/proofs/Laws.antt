-- How the calls' code meets the definitions of the calls: each way that a call ends.
-- Assumes nothing.
use mathlib.Core.Path.{◌≡◌, refl, sym, ap, ◌∙◌}
use mathlib.Core.Bool.{Bool, true, false, ◌&&◌}
use mathlib.Core.List.{List}
use Prim.Native.Nat.{ℕ, ◌+◌}
use borrow.Author.Tests.{leb-true}
use lib.Dec.{leb}
use lib.ListN.{length, replicate}
use Rattle.std.specs.Prelude.{Err}
use Rattle.location.specs.declared.LocationSet.{LocationSet}
use Rattle.location.specs.Sets.{limit}
use Rattle.location.specs.SetLaws.{and_left, and_right}
use Rattle.rules.specs.declared.Trailer.{Trailer}
use Rattle.rules.specs.declared.Refusal.{Refusal}
use Rattle.rules.specs.declared.Refusal.TheVariants as refusals
use Rattle.rules.specs.declared.RunAnswer.{RunAnswer}
use Rattle.rules.specs.declared.PlainAnswer.{PlainAnswer}
use Rattle.rules.specs.Rules.Runs.{Result, mispredicting_run, plain_run}
use Rattle.rules.specs.Rules.JobFile.{rejected, parse, locations, public_of}
use Rattle.rules.specs.Rules.Calls.{Areas, Called, lent, table_size, working_words, room, long_enough, written, areas_after}
use Rattle.rules.specs.Rules.Calls.{run_report, run_refused, run_call, plain_report, plain_refused, plain_parsed, plain_call}
use Rattle.rules.specs.Rules.Pairs.{PairAreas, pair_refused, pair_parsed, pair_call}
use Rattle.rules.specs.Rules.TestLoads.{TestLoadAreas, test_load_refused, test_load_parsed, test_load_call}
use Rattle.rules.specs.Rules.Costs.{costs_fit, with_costs}
use Rattle.rules.specs.Rules.Demands.{Exact}
use Rattle.rules.proofs.Theorems.Costs.{tabled-rejected, plain_any_table}
use Rattle.rules.proofs.Theorems.CallLaws.{call_runs}
use Rattle.job.specs.declared.accepted.AcceptedJob.{AcceptedJob}
use Rattle.job.specs.Answers.{Accepts}
use Rattle.firsts.specs.Reports.{reports_in}
use Rattle.execution.specs.declared.Mode.TheVariants as modes
use Rattle.execution.specs.declared.Ran.{Ran}
use Rattle.job_run.specs.Accepted.{accepted-size, accepted-public}
use Rattle.job_run.specs.JobRuns.{AreasFit, RunIn}
use Rattle.checker.specs.Reports.{answer_of, plain_answer_of, report-same, plain-report_same, run_untabled, run_short, plain_short, run-rejected, plain-rejected}

-- ---- each way that a call ends
exact_of : {A B : Type 0} {called : Called A B} {r : A} {after : B} (answer : A) (areas : B)
    → called ≡ record { answer = answer; areas = areas } → r ≡ answer → after ≡ areas → Exact called r after
exact_of answer areas e p q = rw e (record { answer = p; areas = q })

module _ {bs : List ℕ} {t : Trailer} (k : Accepts bs t) (a e w : List ℕ) where
  -- what the code finds of the areas
  fitting : {b : Bool} → b ≡ (leb working_words (length w) && leb (locations t + table_size) (length e)) → long_enough k.job (lent a e w) ≡ b
  unfolding long_enough
  fitting h = rw (accepted-size k) (sym h)

  pub exact_untabled : (costs : List ℕ) {r : RunAnswer} → costs_fit costs ≡ false → r ≡ run_refused refusals.Costs
      → Exact (run_call bs costs (lent a e w)) r (lent a e w)
  exact_untabled costs c p =
      exact_of (run_refused refusals.Costs) (lent a e w) (run_untabled bs (lent a e w) k.job k.parsed costs c) p refl

  module _ {b : Bool} (h : b ≡ (leb working_words (length w) && leb (locations t + table_size) (length e))) (s : b ≡ false) where
    pub exact_short : (costs : List ℕ) {r : RunAnswer} → costs_fit costs ≡ true → r ≡ run_refused refusals.Areas
        → Exact (run_call bs costs (lent a e w)) r (lent a e w)
    exact_short costs c p =
        exact_of (run_refused refusals.Areas) (lent a e w) (run_short bs (lent a e w) k.job k.parsed costs c (fitting h ∙ s)) p refl

    pub plain_short_areas : {r : PlainAnswer} → r ≡ plain_refused refusals.Areas → Exact (plain_call bs (lent a e w)) r (lent a e w)
    plain_short_areas p =
        exact_of (plain_refused refusals.Areas) (lent a e w) (plain_short bs (lent a e w) k.job k.parsed (fitting h ∙ s)) p refl

  module _ {b : Bool} (h : b ≡ (leb working_words (length w) && leb (locations t + table_size) (length e))) (l : b ≡ true) where
    -- of the job that k is of
    pub areas-fit : (x : AcceptedJob) → x.trailer ≡ t → AreasFit x e w
    areas-fit x same =
        let q = leb working_words (length w) in
        let q' = leb (locations t + table_size) (length e) in
        let m = leb-true (locations t + table_size) (length e) (and_right q q' (sym h ∙ l)) in
        record { work = leb-true working_words (length w) (and_left q q' (sym h ∙ l)); end = rw same m }

    -- the areas after the run, and u the working words once they are cleared
    pub exact-ran : (after : Areas) {costs u : List ℕ} {r : Ran} {public : LocationSet} {x : RunAnswer} → costs_fit costs ≡ true
        → RunIn bs t modes.Mispredicting costs (lent a e w) after r → public ≡ public_of t bs
        → x ≡ answer_of public r (reports_in after.work r.full 0 limit) → u ≡ written (replicate working_words 0) after.work
        → Exact (run_call bs costs (lent a e w)) x (lent after.trace after.end u)
    exact-ran after {costs} {r = r} c o ep ex eu =
        let job = with_costs k.job costs in
        let R = mispredicting_run job (room a) in
        let xs = reports_in after.work r.full 0 limit in
        exact_of (run_report job R) (areas_after R (lent a e w)) (call_runs (record { read = k.job; parsed = k.parsed; fits = c; enough = fitting h ∙ l }))
        (ex ∙ ap (λ (s : LocationSet). answer_of s r xs) (ep ∙ accepted-public k)
        ∙ report-same (o.reports k.job k.parsed) job (o.firsts k.job k.parsed))
        (ap (lent after.trace after.end) eu ∙ o.areas k.job k.parsed)

    -- a plain run is the same by any table
    pub plain-ran : (after : Areas) {costs u : List ℕ} {r : Ran} {x : PlainAnswer} → RunIn bs t modes.Plain costs (lent a e w) after r
        → x ≡ plain_answer_of r → u ≡ written (replicate working_words 0) after.work
        → Exact (plain_call bs (lent a e w)) x (lent after.trace after.end u)
    unfolding plain_call plain_parsed
    plain-ran after {costs} o ex eu =
        let R = plain_run k.job (room a) in
        let same = plain_any_table k.job costs (room a) in
        exact_of (plain_report R) (areas_after R (lent a e w)) (rw (k.parsed, fitting h ∙ l, plain_parsed))
        (ex ∙ plain-report_same (o.reports k.job k.parsed) ∙ ap plain_report same)
        (ap (lent after.trace after.end) eu ∙ o.areas k.job k.parsed ∙ ap (λ (x : Result). areas_after x (lent a e w)) same)

-- ---- a refused job
module _ (bs : List ℕ) (n : Refusal) (p : parse bs ≡ rejected n) (a : Areas) where
  pub exact-rejected : (costs : List ℕ) {r : RunAnswer} → r ≡ run_refused n → Exact (run_call bs costs a) r a
  exact-rejected costs e = exact_of (run_refused n) a (run-rejected bs a costs n p) e refl

  pub plain-exact_rejected : {r : PlainAnswer} → r ≡ plain_refused n → Exact (plain_call bs a) r a
  plain-exact_rejected e = exact_of (plain_refused n) a (plain-rejected bs a n p) e refl

pub pair-rejected : (bs second costs : List ℕ) (n : Refusal) → parse bs ≡ rejected n → (a : PairAreas)
    → Exact (pair_call bs second costs a) (Err n) a
unfolding pair_call pair_parsed pair_refused
pair-rejected bs second costs n p a = rw (p, pair_parsed) (record { answer = refl; areas = refl })

pub test_load_rejected : (bs : List ℕ) (seed : ℕ) (costs : List ℕ) (n : Refusal) → parse bs ≡ rejected n → (a : TestLoadAreas)
    → Exact (test_load_call bs seed costs a) (Err n) a
unfolding test_load_call test_load_parsed test_load_refused
test_load_rejected bs seed costs n p a = rw (tabled-rejected bs costs n p, test_load_parsed) (record { answer = refl; areas = refl })
