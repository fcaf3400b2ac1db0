-- F-6 of the calls on job files: of each location of D a run reports the first observed set that holds it; the report's observation stands in
-- the trace that was written, or is the store that stopped the run; its label is that of an instruction of its rule. Of no other location
-- anything is reported.
-- Assumes nothing.
use Rattle.std.specs.Prelude.{◌≡◌, refl, Bool, true, false, ◌||◌, cond, ℕ, ◌*◌, ◌<◌, length, get_or, Ok}
use Rattle.std.proofs.Math.Path.{sym}
use Rattle.std.proofs.Common.{ap, ◌∙◌, true≢false, arith, length-append}
use mathlib.Core.List.{List, [], ◌∷◌, ◌++◌}
use Rattle.std.proofs.Math.Decide.{dec_lt}
use Rattle.std.proofs.Math.ListN.{get_or-eq_default}
use Rattle.std.proofs.lemmas.List.{get_or_at}
use Rattle.location.specs.Sets.{limit, member}
use Rattle.location.specs.SetLaws.{member-empty}
use Rattle.rules.specs.declared.Verdict.{Verdict}
use Rattle.rules.specs.declared.Refusal.{Refusal}
use Rattle.rules.specs.declared.Counts.{Counts}
use Rattle.rules.specs.declared.First.{First}
use Rattle.rules.specs.declared.Judged.{Judged}
use Rattle.rules.specs.Rules.Outcomes.{judged}
use Rattle.rules.specs.Rules.Instructions.{Observation}
use Rattle.rules.specs.Rules.Firsts.{ObservedSet, no_report, first_holding, held, firsts_of}
use Rattle.rules.specs.Rules.Plain.{end_place, fetch}
use Rattle.rules.specs.Rules.Runs.{Job, Result, verdict}
use Rattle.rules.specs.Rules.JobFile.{accepted, parse}
use Rattle.rules.specs.Rules.Calls.{trace_words, Areas, room, counts, run_report, run_refused, run_call}
use Rattle.rules.specs.Rules.Demands.{trace_of, observed_in, report_of, FirstWith, Stands, observed, stopped, Labelled, Brought}
use Rattle.rules.proofs.Theorems.Firsts.{first-none, firsts-length, firsts_at, mispredicting_gathers}
use Rattle.rules.proofs.Theorems.FirstSteps.{Shown, traced, unmade, RunReports, mispredicting_reports}
use Rattle.rules.proofs.Theorems.CallLaws.{length-trace_words, trace_words-append, Runs, job_in, result, tabled-runs, call_runs, trace-runs, View, ran, refused, refused_call, view}
use Rattle.rules.proofs.Theorems.Outcomes.{same-done}

-- ---- the first set that holds a location, and those before it
first_with : (xs : List ObservedSet) (l : ℕ) → held xs l ≡ true → FirstWith l xs (first_holding xs l)
unfolding held first_holding
first_with [] l e = absurd (true≢false (sym e))
first_with (x ∷ xs) l e = go (member x.set l) refl (first_with xs l) e
  where
    go : (b : Bool) → member x.set l ≡ b → (held xs l ≡ true → FirstWith l xs (first_holding xs l)) → (b || held xs l) ≡ true
        → FirstWith l (x ∷ xs) (cond b x.report (first_holding xs l))
    go true p h e = record { before = []; found = x; after = xs; split = refl; earlier = refl; holds = p; report = refl }
    go false p h e =
        let w = h e in
        record {
          before = x ∷ w.before;
          found = w.found;
          after = w.after;
          split = ap (λ (ys : List ObservedSet). x ∷ ys) w.split;
          earlier = ap (λ (b : Bool). b || held w.before l) p ∙ w.earlier;
          holds = w.holds;
          report = w.report;
        }

-- of a location that no set holds nothing is reported
none-reported : (xs : List ObservedSet) (l : ℕ) → held xs l ≡ false → get_or (firsts_of xs) l no_report ≡ no_report
none-reported xs l e = go (dec_lt l limit)
  where
    go : Dec (l < limit) → get_or (firsts_of xs) l no_report ≡ no_report
    go (yes lt) = firsts_at xs l lt ∙ first-none xs l e
    go (no n) = get_or-eq_default (firsts_of xs) no_report {n = l} (let h = firsts-length xs in omega arith)

-- ---- the trace as words
-- the kind of an observation stands at twice its index
kind_at : (os : List Observation) (o : Observation) (ps : List Observation) → get_or (trace_words (os ++ o ∷ ps)) (2 * length os) 0 ≡ o.kind
unfolding trace_words
kind_at os o ps =
    ap (λ (ws : List ℕ). get_or ws (2 * length os) 0) (trace_words-append os (o ∷ ps))
    ∙ get_or_at (trace_words os) o.kind (o.value ∷ trace_words ps) 0 (2 * length os) (length-trace_words os)

shown-stands : (r : Result) (x : First) → Shown r x → Stands (counts r) (trace_words r.gathered.trace) x
unfolding counts
shown-stands r x (traced t) =
    observed
    (let n = ap length t.split in
    let m = length-append t.before (t.found ∷ t.after) in
    let i = t.index in
    omega arith)
    (rw (t.split, ← t.index) (kind_at t.before t.found t.after ∙ t.kind))
shown-stands r x (unmade i s c) = stopped i s c

-- ---- a call that ran
module _ {f costs : List ℕ} {a : Areas} (r : Runs f costs a) where
  observed-runs : observed_in f costs a ≡ (result r).gathered.sets
  unfolding observed_in
  observed-runs = rw (tabled-runs r)

  -- what is in D is held by one of the observed sets
  full_runs : (l : ℕ) → member (run_call f costs a).answer.full l ≡ held (result r).gathered.sets l
  unfolding run_report
  full_runs l = rw (call_runs r) (mispredicting_gathers (job_in r) (room a.trace) l)

  report-runs : (l : ℕ) → l < limit → report_of (run_call f costs a).answer l ≡ first_holding (result r).gathered.sets l
  unfolding run_report
  report-runs l h = rw (call_runs r) (firsts_at (result r).gathered.sets l h)

  nothing-runs : (l : ℕ) → member (run_call f costs a).answer.full l ≡ false → report_of (run_call f costs a).answer l ≡ no_report
  unfolding run_report
  nothing-runs l e = let h = sym (full_runs l) ∙ e in rw (call_runs r) (none-reported (result r).gathered.sets l h)

  ran-counts : {n : Counts} {v : Verdict} → (run_call f costs a).answer.outcome ≡ Ok (judged n v) → counts (result r) ≡ n
  unfolding run_report
  ran-counts {n} {v} e =
      let q : Ok (judged (counts (result r)) (verdict (job_in r) (result r))) ≡ Ok (judged n v) = rw (call_runs r) at e in
      ap (λ (x : Judged). x.counts) (same-done q)

  same-job : (job : Job) → parse f ≡ accepted job → r.read ≡ job
  same-job job e = let q : accepted r.read ≡ accepted job = sym r.parsed ∙ e in cc

  abbrev reports : RunReports (job_in r).code (result r)
  reports = mispredicting_reports (job_in r) (room a.trace)

  -- the program does not depend on the table
  labelled : (x : First) → Labelled (job_in r).code x → Labelled r.read.code x
  unfolding end_place fetch
  labelled x h = record { below = h.below; rule = h.rule }

  brought-runs : Brought f costs a (run_call f costs a).answer (run_call f costs a).areas
  brought-runs = record {
    first = λ l h e. rw (observed-runs, report-runs l h) (first_with (result r).gathered.sets l (sym (full_runs l) ∙ e));
    stands = λ q l h e.
        rw (report-runs l h, ← ran-counts q) (unfold trace_of in rw (trace-runs r) (shown-stands (result r) _ (reports.shown l (sym (full_runs l) ∙ e))));
    instruction = λ job q l h e. rw (report-runs l h, ← same-job job q) (labelled _ (reports.labelled l (sym (full_runs l) ∙ e)));
    nothing = nothing-runs;
  }

-- ---- a call that was refused: D is empty
module _ (f costs : List ℕ) (a : Areas) (m : Refusal) (q : run_call f costs a ≡ refused_call m a) where
  empty-full : (l : ℕ) → member (run_call f costs a).answer.full l ≡ false
  unfolding run_refused
  empty-full l = rw q (member-empty l)

  nothing-refused : (l : ℕ) → report_of (run_call f costs a).answer l ≡ no_report
  unfolding run_refused held
  nothing-refused l = rw q (none-reported [] l refl)

  brought-refused : Brought f costs a (run_call f costs a).answer (run_call f costs a).areas
  brought-refused = record {
    first = λ l h e. absurd (true≢false (sym e ∙ empty-full l));
    stands = λ x l h e. absurd (true≢false (sym e ∙ empty-full l));
    instruction = λ job x l h e. absurd (true≢false (sym e ∙ empty-full l));
    nothing = λ l e. nothing-refused l;
  }

-- ---- the theorem
pub brought_call : (f costs : List ℕ) (a : Areas) → Brought f costs a (run_call f costs a).answer (run_call f costs a).areas
brought_call f costs a = go (view f costs a)
  where
    go : View f costs a → Brought f costs a (run_call f costs a).answer (run_call f costs a).areas
    go (ran r) = brought-runs r
    go (refused m q) = brought-refused f costs a m q
