-- From a run that has ended to what the calls return and leave.
-- Assumes nothing.
use Rattle.std.specs.Prelude.{◌≡◌, true, List, ℕ, Ok}
use Rattle.std.proofs.Math.Bool.{false}
use Rattle.location.specs.declared.LocationSet.{LocationSet}
use Rattle.rules.specs.declared.Refusal.{Refusal}
use Rattle.rules.specs.declared.Refusal.TheVariants as refusals
use Rattle.rules.specs.declared.RunAnswer.{RunAnswer}
use Rattle.rules.specs.Rules.Outcomes.{judged}
use Rattle.rules.specs.declared.PlainAnswer.{PlainAnswer}
use Rattle.rules.specs.declared.First.{First}
use Rattle.rules.specs.Rules.Firsts.{firsts_of}
use Rattle.rules.specs.Rules.Runs.{Result, Job, judge, verdict}
use Rattle.rules.specs.Rules.JobFile.{accepted, rejected, parse}
use Rattle.rules.specs.Rules.Calls.{Areas, long_enough, counts, run_report, run_refused, run_parsed, run_call, plain_report, plain_refused, plain_parsed, plain_call}
use Rattle.rules.specs.Rules.Costs.{costs_fit, with_costs}
use Rattle.rules.proofs.Theorems.Costs.{tabled-accepted, tabled-refused, tabled-rejected}
use Rattle.execution.specs.declared.Ran.{Ran}
use Rattle.execution.specs.Running.{Reports}

-- ---- what is returned of a run that has ended
abbrev pub answer_of : LocationSet → Ran → List First → RunAnswer
answer_of public r xs = record {
  outcome = Ok (judged r.counts (judge public r.counts.stop r.full r.plain));
  full = r.full;
  plain = r.plain;
  firsts = xs;
}

abbrev pub plain_answer_of : Ran → PlainAnswer
plain_answer_of r = record {
  outcome = Ok (record { stop = r.counts.stop; observations = r.counts.observations; steps = r.counts.steps });
  plain = r.plain;
}

module _ {r : Ran} {R : Result} (e : Reports r R) where
  pub report-same : (job : Job) {xs : List First} → xs ≡ firsts_of R.gathered.sets → answer_of job.public r xs ≡ run_report job R
  unfolding run_report counts verdict
  report-same job ex = λ i. answer_of job.public (record { counts = e.counts i; full = e.full i; plain = e.plain i }) (ex i)

  pub plain-report_same : plain_answer_of r ≡ plain_report R
  unfolding plain_report counts
  plain-report_same = λ i. plain_answer_of (record { counts = e.counts i; full = e.full i; plain = e.plain i })

-- ---- the calls
module _ (bs : List ℕ) (a : Areas) where
  pub run-rejected : (costs : List ℕ) (n : Refusal) → parse bs ≡ rejected n → run_call bs costs a ≡ record { answer = run_refused n; areas = a }
  unfolding run_call run_parsed
  run-rejected costs n e = rw (tabled-rejected bs costs n e, run_parsed)

  pub plain-rejected : (n : Refusal) → parse bs ≡ rejected n → plain_call bs a ≡ record { answer = plain_refused n; areas = a }
  unfolding plain_call plain_parsed
  plain-rejected n e = rw (e, plain_parsed)

  module _ (job : Job) (e : parse bs ≡ accepted job) where
    pub run_untabled : (costs : List ℕ) → costs_fit costs ≡ false → run_call bs costs a ≡ record { answer = run_refused refusals.Costs; areas = a }
    unfolding run_call run_parsed
    run_untabled costs c = rw (tabled-refused bs costs job e c, run_parsed)

    pub run_short : (costs : List ℕ) → costs_fit costs ≡ true → long_enough job a ≡ false
        → run_call bs costs a ≡ record { answer = run_refused refusals.Areas; areas = a }
    unfolding run_call run_parsed long_enough
    run_short costs c h =
        let h' : long_enough (with_costs job costs) a ≡ false = h in
        rw (tabled-accepted bs costs job e c, h', run_parsed)

    pub plain_short : long_enough job a ≡ false → plain_call bs a ≡ record { answer = plain_refused refusals.Areas; areas = a }
    unfolding plain_call plain_parsed
    plain_short h = rw (e, h, plain_parsed)
