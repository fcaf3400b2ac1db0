-- What a call on a job file comes to: a run of an accepted job in areas that are long enough, or a refusal.
-- Assumes nothing.
use Rattle.std.specs.Prelude.{◌≡◌, refl, Bool, List, [], ◌∷◌, ◌++◌, ℕ, ◌*◌, ◌/◌, Ok}
use Rattle.std.proofs.Common.{sym, ap, arith, take_at}
use Rattle.std.proofs.Math.Bool.{true, false}
use Rattle.std.proofs.Math.ListN.{length}
use Rattle.rules.specs.declared.Verdict.{Verdict}
use Rattle.rules.specs.declared.Refusal.{Refusal}
use Rattle.rules.specs.declared.Refusal.TheVariants as refusals
use Rattle.rules.specs.declared.Counts.{Counts}
use Rattle.rules.specs.declared.RunAnswer.{RunAnswer}
use Rattle.rules.specs.Rules.Outcomes.{judged}
use Rattle.rules.specs.Rules.Instructions.{Observation}
use Rattle.rules.specs.Rules.Runs.{Job, Result, mispredicting_run, plain_run}
use Rattle.rules.specs.Rules.Answers.{run_refusal, plain_refusal}
use Rattle.rules.specs.Rules.Instructions.{window_costs}
use Rattle.rules.specs.Rules.JobFile.{Parsed, accepted, rejected, parse}
use Rattle.rules.specs.Rules.Costs.{costs_fit, with_costs, tabled}
use Rattle.rules.specs.Rules.Calls.{observation_words, trace_words, Areas, room, long_enough, written, areas_after, Called, counts, run_report, run_refused, run_parsed, fixed_run_call, run_call, plain_report, plain_parsed, plain_call}
use Rattle.rules.specs.Rules.Pairs.{with_state}
use Rattle.rules.specs.Rules.Demands.{Exact, Unaltered, SameLengths, trace_in, trace_of, plain_trace_of}
use Rattle.rules.proofs.Theorems.Costs.{tabled-accepted, tabled-refused, tabled-rejected, ones_tabled}
use Rattle.rules.proofs.Theorems.Outcomes.{refused-done}

-- ---- a call that ran, and one that was refused
pub length-trace_words : (os : List Observation) → length (trace_words os) ≡ 2 * length os
unfolding trace_words
length-trace_words [] = refl
length-trace_words (o ∷ os) = let h = length-trace_words os in omega arith

pub trace_words-append : (os ps : List Observation) → trace_words (os ++ ps) ≡ trace_words os ++ trace_words ps
unfolding trace_words
trace_words-append [] ps = refl
trace_words-append (o ∷ os) ps = ap (λ (ws : List ℕ). observation_words o ++ ws) (trace_words-append os ps)

-- an accepted job with an accepted table, in areas that are long enough
pub record Runs (f costs : List ℕ) (a : Areas) : Type 0 where
  pub read : Job
  pub parsed : parse f ≡ accepted read
  pub fits : costs_fit costs ≡ true
  pub enough : long_enough read a ≡ true

module _ {f costs : List ℕ} {a : Areas} (r : Runs f costs a) where
  -- the job with its table, and the run that the call makes
  abbrev pub job_in : Job
  job_in = with_costs r.read costs

  abbrev pub result : Result
  result = mispredicting_run job_in (room a.trace)

  pub tabled-runs : tabled (parse f) costs ≡ accepted job_in
  tabled-runs = tabled-accepted f costs r.read r.parsed r.fits

  pub call_runs : run_call f costs a ≡ record { answer = run_report job_in result; areas = areas_after result a }
  unfolding run_call run_parsed long_enough
  call_runs = let e : long_enough job_in a ≡ true = r.enough in rw (tabled-runs, e, run_parsed)

  pub trace-runs : trace_of f costs a ≡ trace_words result.gathered.trace
  unfolding trace_of trace_in run_report areas_after counts written
  trace-runs =
      let os = result.gathered.trace in
      rw call_runs (take_at (trace_words os) _ (2 * length os) (length-trace_words os))

-- an accepted job, for a plain run in areas that are long enough
pub record PlainRuns (f : List ℕ) (a : Areas) : Type 0 where
  pub job : Job
  pub parsed : parse f ≡ accepted job
  pub enough : long_enough job a ≡ true

module _ {f : List ℕ} {a : Areas} (r : PlainRuns f a) where
  -- the plain run that the plain call makes
  abbrev pub plain_result : Result
  plain_result = plain_run r.job (room a.trace)

  pub plain_call-runs : plain_call f a ≡ record { answer = plain_report plain_result; areas = areas_after plain_result a }
  unfolding plain_call plain_parsed
  plain_call-runs = rw (r.parsed, r.enough, plain_parsed)

  pub plain-trace_runs : plain_trace_of f a ≡ trace_words plain_result.gathered.trace
  unfolding plain_trace_of plain_report areas_after written
  plain-trace_runs =
      let os = plain_result.gathered.trace in
      rw plain_call-runs (take_at (trace_words os) _ (2 * length os) (length-trace_words os))

-- "number only", and all areas left as they were
abbrev pub refused_call : Refusal → Areas → Called RunAnswer Areas
refused_call n a = record { answer = run_refused n; areas = a }

-- every call is one or the other
pub data View (f costs : List ℕ) (a : Areas) : Type 0 where
  ran : Runs f costs a → View f costs a
  refused : (n : Refusal) → run_call f costs a ≡ refused_call n a → View f costs a

pub view : (f costs : List ℕ) (a : Areas) → View f costs a
unfolding run_call run_parsed long_enough
view f costs a = go (parse f) refl
  where
    fits : (job : Job) → parse f ≡ accepted job → costs_fit costs ≡ true → (b : Bool) → long_enough job a ≡ b → View f costs a
    fits job e c true l = ran (record { read = job; parsed = e; fits = c; enough = l })
    fits job e c false l =
        let l' : long_enough (with_costs job costs) a ≡ false = l in
        refused refusals.Areas (rw (tabled-accepted f costs job e c, l', run_parsed))

    table : (job : Job) → parse f ≡ accepted job → (b : Bool) → costs_fit costs ≡ b → View f costs a
    table job e true c = fits job e c (long_enough job a) refl
    table job e false c = refused refusals.Costs (rw (tabled-refused f costs job e c, run_parsed))

    go : (P : Parsed) → parse f ≡ P → View f costs a
    go (rejected n) e = refused n (rw (tabled-rejected f costs n e, run_parsed))
    go (accepted job) e = table job e (costs_fit costs) refl

pub runs_of : {f costs : List ℕ} {a : Areas} {n : Counts} {v : Verdict} → (run_call f costs a).answer.outcome ≡ Ok (judged n v)
    → View f costs a → Runs f costs a
unfolding run_refused
runs_of e (ran r) = r
runs_of e (refused n q) = refused-done (rw q at e)

-- ---- the same job in areas of the same lengths
pub same-room : {a a' : Areas} → SameLengths a a' → room a'.trace ≡ room a.trace
unfolding room
same-room h = ap (λ (n : ℕ). n / 2) (sym h.trace)

pub same-enough : {a a' : Areas} (job : Job) (vs : List ℕ) → length job.init ≡ length vs → SameLengths a a'
    → long_enough (with_state job vs) a' ≡ long_enough job a
unfolding long_enough with_state
same-enough job vs e h = rw (e, h.end, h.work)

pub enough-same : {a a' : Areas} (job : Job) → SameLengths a a' → long_enough job a' ≡ long_enough job a
unfolding long_enough
enough-same job h = rw (h.end, h.work)

-- ---- a call that is refused leaves every area as it was
-- of any call: what it leaves where it was carried out and where it was refused, and one that is exact
module _ {A B : Type 0} (refusal : A → ℕ) (called : Called A B) (a : B) where
  pub carried_out : refusal called.answer ≡ 0 → Unaltered refusal called.answer a called.areas
  carried_out e = record { refused = λ h. absurd (omega arith) }

  pub left_alone : called.areas ≡ a → Unaltered refusal called.answer a called.areas
  left_alone e = record { refused = λ h. e }

  pub exact-unaltered : {r : A} {after : B} → Exact called r after → Unaltered refusal called.answer a called.areas
      → Unaltered refusal r a after
  exact-unaltered x h = rw (x.answer, x.areas) h

pub run-unaltered : (f costs : List ℕ) (a : Areas) → Unaltered run_refusal (run_call f costs a).answer a (run_call f costs a).areas
run-unaltered f costs a = go (view f costs a)
  where
    go : View f costs a → Unaltered run_refusal (run_call f costs a).answer a (run_call f costs a).areas
    go (ran r) = carried_out run_refusal (run_call f costs a) a (unfold run_report in rw (call_runs r))
    go (refused m q) = left_alone run_refusal (run_call f costs a) a (ap (λ (c : Called RunAnswer Areas). c.areas) q)

-- ---- "a table of eight ones gives every earlier answer"
pub ones_run : (f : List ℕ) (a : Areas) → run_call f window_costs a ≡ fixed_run_call f a
unfolding run_call fixed_run_call
ones_run f a = ap (λ (P : Parsed). run_parsed P a) (ones_tabled f)

pub plain-unaltered : (f : List ℕ) (a : Areas) → Unaltered plain_refusal (plain_call f a).answer a (plain_call f a).areas
unfolding plain_call plain_parsed
plain-unaltered f a = go (parse f) refl
  where
    fits : (job : Job) → parse f ≡ accepted job → (b : Bool) → long_enough job a ≡ b
        → Unaltered plain_refusal (plain_parsed (parse f) a).answer a (plain_parsed (parse f) a).areas
    fits job q true l = carried_out plain_refusal (plain_parsed (parse f) a) a (unfold plain_report in rw (q, l, plain_parsed))
    fits job q false l = left_alone plain_refusal (plain_parsed (parse f) a) a (rw (q, l, plain_parsed))

    go : (P : Parsed) → parse f ≡ P → Unaltered plain_refusal (plain_parsed (parse f) a).answer a (plain_parsed (parse f) a).areas
    go (rejected m) q = left_alone plain_refusal (plain_parsed (parse f) a) a (rw (q, plain_parsed))
    go (accepted job) q = fits job q (long_enough job a) refl
