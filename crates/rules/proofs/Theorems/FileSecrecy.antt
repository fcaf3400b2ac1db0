-- Demand 3 of the calls on job files: a second file that differs only in the state's bytes, with a state alike in the reported
-- set, in areas of the same lengths and with the same table, gets the same answer and has the same words written to its trace area; the tables have the same
-- addresses, and the same values where an entry's set lies within the reported one.
-- Assumes nothing.
use Rattle.std.specs.Prelude.{◌≡◌, List, ℕ, length, Ok}
use Rattle.std.proofs.Common.{sym, ap, ◌∙◌}
use Rattle.location.specs.declared.LocationSet.{LocationSet}
use Rattle.rules.specs.declared.Verdict.TheVariants as verdicts
use Rattle.rules.specs.declared.Counts.{Counts}
use Rattle.rules.specs.declared.Judged.{Judged}
use Rattle.rules.specs.Rules.Outcomes.{judged}
use Rattle.rules.specs.Rules.Firsts.{firsts_of}
use Rattle.rules.specs.Rules.Runs.{Job, Result, mispredicting_run, verdict}
use Rattle.rules.specs.Rules.JobFile.{accepted, parse, trailer, state_of, public_of}
use Rattle.rules.specs.Rules.Calls.{trace_words, Areas, room, table_words, areas_after, counts, run_report, run_call}
use Rattle.rules.specs.Rules.Pairs.{with_state}
use Rattle.rules.specs.Rules.Demands.{SameLengths, trace_in, trace_of, table_in, SameButState, AlikeOn, remembered, SameCall, Demand3}
use Rattle.rules.proofs.Theorems.Secrecy.{SameReport, demand3, demand3-clean}
use Rattle.rules.proofs.Theorems.JobLaws.{passed, job-init, job-public, init-most, length-state_of, parse-other}
use Rattle.rules.proofs.Theorems.EveryState.{mispredicting_length}
use Rattle.rules.proofs.Theorems.Tables.{same_tables, table-in}
use Rattle.rules.proofs.Theorems.CallLaws.{Runs, job_in, result, tabled-runs, call_runs, trace-runs, view, runs_of, same-room, same-enough}
use Rattle.rules.proofs.Theorems.Outcomes.{same-done}

-- ---- two calls
abbrev SameCalls : List ℕ → List ℕ → Areas → List ℕ → Areas → Type 0
SameCalls f costs a g a' = SameCall f costs a (run_call f costs a).answer (run_call f costs a).areas g a'

-- the same set and the same words, written otherwise
alike_as : {s s' : LocationSet} {xs xs' ys : List ℕ} → s ≡ s' → xs ≡ xs' → AlikeOn s' xs' ys → AlikeOn s xs ys
alike_as d e h = rw (d, e) h

same_size : (f g : List ℕ) (job : Job) → parse f ≡ accepted job → length job.init ≡ length (state_of (trailer f) g)
same_size f g job e =
    ap length (job-init (passed f job e)) ∙ length-state_of (trailer f) f ∙ sym (length-state_of (trailer f) g)

same_answer : {job job' : Job} {r s : Result} → SameReport job job' r s → run_report job r ≡ run_report job' s
unfolding run_report counts
same_answer x = λ i. record {
  outcome = Ok (judged (record { stop = x.stop i; observations = length (x.trace i); steps = x.steps i; rollbacks = x.rollbacks i }) (x.word i));
  full = x.full i;
  plain = x.plain i;
  firsts = firsts_of (x.sets i);
}

-- the table that a call leaves, and the entries that it shows
table_runs : {f costs : List ℕ} {a : Areas} (r : Runs f costs a) → table_in f (run_call f costs a).areas.end ≡ table_words (result r).last.state.outside
unfolding areas_after
table_runs {f} {costs} {a} r =
    let n = ap length (job-init (passed f r.read r.parsed)) ∙ length-state_of (trailer f) f in
    rw (call_runs r) (table-in f (result r).last.state a.end (mispredicting_length (job_in r) (room a.trace) ∙ n))

remembered-runs : {f costs : List ℕ} {a : Areas} (r : Runs f costs a) → remembered f costs a ≡ (result r).last.state.outside
unfolding remembered
remembered-runs r = rw (tabled-runs r)

module _ {f g costs : List ℕ} {a a' : Areas} (r : Runs f costs a) (s : SameButState f g) (h : SameLengths a a') where
  -- the job with the second state, and the same table
  abbrev other : Job
  other = with_state (job_in r) (state_of (trailer f) g)

  other-runs : Runs g costs a'
  other-runs = record {
    read = with_state r.read (state_of (trailer f) g);
    parsed = parse-other r.parsed s;
    fits = r.fits;
    enough = same-enough r.read (state_of (trailer f) g) (same_size f g r.read r.parsed) h ∙ r.enough;
  }

  same_call : SameReport (job_in r) other (result r) (mispredicting_run other (room a.trace)) → SameCalls f costs a g a'
  unfolding other-runs trace_in trace_of run_report with_state
  same_call x = record {
    answer = rw (call_runs r, call_runs other-runs, same-room h) (same_answer x);
    trace = rw (trace-runs r, trace-runs other-runs, same-room h) (ap trace_words x.trace);
    firsts = rw (call_runs r, call_runs other-runs, same-room h) (ap firsts_of x.sets);
    outside = rw (table_runs r, table_runs other-runs, remembered-runs r, call_runs r, same-room h) (same_tables x.outside);
  }

  -- states alike in the reported set
  same-reported : AlikeOn (run_call f costs a).answer.full (state_of (trailer f) f) (state_of (trailer f) g) → SameCalls f costs a g a'
  unfolding run_report
  same-reported k =
      let p = passed f r.read r.parsed in
      let d : (result r).gathered.full ≡ (run_call f costs a).answer.full = rw (call_runs r) in
      same_call
      (demand3 (job_in r) (room a.trace) (state_of (trailer f) g) (init-most p) (same_size f g r.read r.parsed)
      (alike_as d (job-init p) k))

  -- a clean verdict, and states alike in the public list
  same-clean : {n : Counts} → (run_call f costs a).answer.outcome ≡ Ok (judged n verdicts.Clean)
      → AlikeOn (public_of (trailer f) f) (state_of (trailer f) f) (state_of (trailer f) g) → SameCalls f costs a g a'
  unfolding run_report
  same-clean {n} e k =
      let p = passed f r.read r.parsed in
      let q : Ok (judged (counts (result r)) (verdict (job_in r) (result r))) ≡ Ok (judged n verdicts.Clean) = rw (call_runs r) at e in
      let v : verdict (job_in r) (result r) ≡ verdicts.Clean = ap (λ (x : Judged). x.verdict) (same-done q) in
      same_call
      (demand3-clean (job_in r) (room a.trace) (state_of (trailer f) g) (init-most p) (same_size f g r.read r.parsed) v
      (alike_as (job-public p) (job-init p) k))

-- ---- the theorems
pub demand3_call : (f costs : List ℕ) (a : Areas) → Demand3 f costs a (run_call f costs a).answer (run_call f costs a).areas
demand3_call f costs a = record {
  reported = λ e g a' s h k. same-reported (runs_of e (view f costs a)) s h k;
  clean = λ e g a' s h k. same-clean (runs_of e (view f costs a)) s h e k;
}
