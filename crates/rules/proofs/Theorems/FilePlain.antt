-- Demand 2 of the calls on job files: where a run finishes, by whatever table, the plain run of the same file in areas of the same lengths finishes,
-- has the struck-out trace, leaves the same registers, cells and table, and reports the same plain set.
-- Assumes nothing.
use Rattle.std.specs.Prelude.{◌≡◌, List, ℕ, ◌+◌, Ok}
use Rattle.std.proofs.Math.Path.{sym, ap}
use Rattle.std.proofs.Common.{subst, ◌∙◌}
use Rattle.std.proofs.Math.ListN.{length}
use Rattle.std.proofs.Math.Seq.{take_at}
use Rattle.rules.specs.declared.Stop.TheVariants.{Finished}
use Rattle.rules.specs.declared.Verdict.{Verdict}
use Rattle.rules.specs.declared.Counts.{Counts}
use Rattle.rules.specs.declared.Judged.{Judged}
use Rattle.rules.specs.Rules.Outcomes.{judged}
use Rattle.rules.specs.Rules.Plain.{State}
use Rattle.rules.specs.Rules.Runs.{Result, verdict}
use Rattle.rules.specs.Rules.JobFile.{trailer, locations}
use Rattle.rules.specs.Rules.Calls.{trace_words, Areas, room, table_size, end_words, written, areas_after, counts, run_report, run_call, plain_report}
use Rattle.rules.specs.Rules.Demands.{SameLengths, trace_of, end_of, PlainMatch, Demand2}
use Rattle.rules.proofs.Theorems.PlainRun.{PlainMatches, demand2}
use Rattle.rules.proofs.Theorems.Costs.{plain_any_table}
use Rattle.rules.proofs.Theorems.Sizes.{end-length}
use Rattle.rules.proofs.Theorems.EveryState.{plain-length}
use Rattle.rules.proofs.Theorems.JobLaws.{passed, job-init, length-state_of}
use Rattle.rules.proofs.Theorems.CallLaws.{Runs, job_in, result, call_runs, trace-runs, PlainRuns, plain_result, plain_call-runs, plain-trace_runs, view, runs_of, same-room, enough-same}
use Rattle.rules.proofs.Theorems.Outcomes.{same-done}

-- ---- two calls
module _ {f costs : List ℕ} {a a' : Areas} (r : Runs f costs a) (h : SameLengths a a') where
  -- the same job, in the other areas
  other : PlainRuns f a'
  other = record { job = r.read; parsed = r.parsed; enough = enough-same r.read h ∙ r.enough }

  abbrev plain : Result
  plain = plain_result other

  -- what the definitions say of the two runs
  run-matches : (result r).stop ≡ Finished → PlainMatches (result r) plain
  unfolding other
  run-matches e =
      rw (same-room h)
      (subst (PlainMatches (result r)) (plain_any_table r.read costs (room a.trace)) (demand2 (job_in r) (room a.trace) e))

  -- both end areas begin with the words of one state
  front : (σ : State) (area : List ℕ) → length σ.inside ≡ length r.read.init → end_of f (written (end_words σ) area) ≡ end_words σ
  unfolding end_of written
  front σ area e =
      let n = e ∙ ap length (job-init (passed f r.read r.parsed)) ∙ length-state_of (trailer f) f in
      take_at (end_words σ) _ (locations (trailer f) + table_size) (end-length σ ∙ ap (λ (k : ℕ). k + table_size) n)

  matches : PlainMatches (result r) plain → PlainMatch f (run_call f costs a).answer (run_call f costs a).areas a'
  unfolding plain_report areas_after run_report other
  matches m =
      let size : length plain.last.state.inside ≡ length r.read.init = plain-length r.read (room a'.trace) in
      record {
        counts = record { stop = plain.stop; observations = length plain.gathered.trace; steps = plain.gathered.steps };
        finishes = rw (plain_call-runs other);
        stop = m.stop;
        observed = (result r).gathered.trace;
        written = unfold trace_of in trace-runs r;
        trace = plain-trace_runs other ∙ ap trace_words m.trace;
        states = rw (plain_call-runs other, call_runs r, ← m.state)
            (front plain.last.state a'.end size ∙ sym (front plain.last.state a.end size));
        plain = rw (plain_call-runs other, call_runs r) m.plain;
      }

-- a run's stop is the one that its counts give
ran-finished : {f costs : List ℕ} {a : Areas} {n : Counts} {v : Verdict} (r : Runs f costs a)
    → (run_call f costs a).answer.outcome ≡ Ok (judged n v) → n.stop ≡ Finished → (result r).stop ≡ Finished
unfolding run_report counts
ran-finished {n = n} {v = v} r e s =
    let q : Ok (judged (counts (result r)) (verdict (job_in r) (result r))) ≡ Ok (judged n v) = rw (call_runs r) at e in
    ap (λ (x : Judged). x.counts.stop) (same-done q) ∙ s

pub demand2_call : (f costs : List ℕ) (a : Areas) → Demand2 f a (run_call f costs a).answer (run_call f costs a).areas
demand2_call f costs a = record {
  finished = λ e s a' h. let r = runs_of e (view f costs a) in matches r h (run-matches r h (ran-finished r e s));
}
