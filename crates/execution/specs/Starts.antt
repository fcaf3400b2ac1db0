-- Where a run begins, and the whole run from there.
-- Assumes nothing.
use Rattle.std.specs.Prelude.{◌≡◌, ℕ, ◌/◌, length, drop}
use Rattle.std.proofs.Math.Path.{sym, ap}
use mathlib.Core.List.{List, []}
use Rattle.location.specs.Sets.{empty}
use Rattle.rules.specs.declared.Trailer.{Trailer}
use Rattle.rules.specs.Rules.Plain.{first_state}
use Rattle.rules.specs.Rules.Runs.{Result, Job, run, first, blank, mispredicting_run, plain_run}
use Rattle.rules.specs.Rules.JobFile.{trailer, locations, state_of, job_of}
use Rattle.rules.specs.Rules.Calls.{room}
use Rattle.rules.specs.Rules.Pairs.{with_state}
use Rattle.rules.specs.Rules.Costs.{with_costs}
use Rattle.rules.proofs.Theorems.JobLaws.{Passed, job-init, job-budget, job-cells}
use Rattle.program.specs.Programs.{program_in}
use Rattle.work.specs.Layout.{labels}
use Rattle.work.specs.Words.{costs_in}
use Rattle.work.specs.Machines.{state_in, machine_of}
use Rattle.stepping.specs.declared.Progress.{Progress}
use Rattle.stepping.specs.Progress.{gathered_of}
use Rattle.execution.specs.declared.Mode.{Mode}
use Rattle.execution.specs.declared.Mode.TheVariants as modes
use Rattle.execution.specs.Next.{step_by}
use Rattle.execution.specs.Running.{code_in}

-- nothing is done yet
unfoldable pub beginning : Progress
beginning = record {
  control = record { place = 0; depth = 0; log = 0; opened = 0; window = 1 };
  observations = 0;
  steps = 0;
  full = empty;
  plain = empty;
}

-- the whole run of the program that the words w describe, from the state that they hold, with the trace area a
unfoldable pub whole : List ℕ → Trailer → Mode → List ℕ → List ℕ → Result
whole p t mode w a =
    let code = code_in p t (drop labels w) in
    run (step_by mode code) code (length a / 2) t.budget (machine_of w beginning.control (locations t)) (gathered_of [] [] beginning)

-- ---- of an accepted job, whose program the words describe, by the table of window costs that they hold
module _ {bs : List ℕ} {job : Job} (q : Passed bs job) where
  abbrev t : Trailer
  t = trailer bs

  pub code_same : (p ws cs : List ℕ) → program_in p t.count ws ≡ job.code.prog → costs_in ws ≡ cs → code_in p t ws ≡ (with_costs job cs).code
  unfolding code_in job_of
  code_same p ws cs e k =
      let c = sym (job-cells q) in
      let v = sym (ap (λ (j : Job). j.code.window) q.made) in
      λ i. record { prog = e i; cells = c i; window = v i; costs = k i }

  -- the machine in words that hold a state is the first of the job with that state
  pub first-same : (w vs : List ℕ) → state_in w (locations t) ≡ first_state vs
      → machine_of w beginning.control (locations t) ≡ first (with_state job vs)
  unfolding beginning first with_state
  first-same w vs e = rw e

  module _ (p w a vs cs : List ℕ) (described : program_in p t.count (drop labels w) ≡ job.code.prog)
      (holds : state_in w (locations t) ≡ first_state vs) (costs : costs_in (drop labels w) ≡ cs) where
    begins : (mode : Mode)
        → (let code = (with_costs job cs).code in
        whole p t mode w a ≡ run (step_by mode code) code (length a / 2) job.budget (first (with_state job vs)) blank)
    unfolding whole beginning blank
    begins mode = rw (code_same p (drop labels w) cs described costs, first-same w vs holds, job-budget q)

    -- the whole run is the rules' run of the job with the state and the costs that the words hold
    pub whole_mispredicting : whole p t modes.Mispredicting w a ≡ mispredicting_run (with_state (with_costs job cs) vs) (room a)
    unfolding mispredicting_run room with_state first
    whole_mispredicting = begins modes.Mispredicting

    pub whole_plain : whole p t modes.Plain w a ≡ plain_run (with_state (with_costs job cs) vs) (room a)
    unfolding plain_run room with_state first
    whole_plain = begins modes.Plain

  -- the job's own state
  pub own-state : with_state job (state_of t bs) ≡ job
  unfolding with_state
  own-state = ap (λ (vs : List ℕ). record { code = job.code; init = vs; public = job.public; budget = job.budget }) (sym (job-init q))
