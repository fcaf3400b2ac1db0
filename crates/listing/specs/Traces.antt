-- Printed from the words that a run leaves in its trace area, an answer's lines are those of the rules.
-- Assumes nothing.
use Rattle.std.specs.Prelude.{◌≡◌, refl, List, [], ◌∷◌, ◌++◌, ℕ, length, drop}
use Rattle.std.proofs.Common.{ap, ◌∙◌}
use Rattle.rules.specs.declared.Refusal.{Refusal}
use Rattle.rules.specs.declared.RunAnswer.{RunAnswer}
use Rattle.rules.specs.Rules.Instructions.{Observation}
use Rattle.rules.specs.Rules.Runs.{Job, Result}
use Rattle.rules.specs.Rules.Calls.{trace_words, written, counts, run_report, run_refused}
use Rattle.rules.specs.Rules.Demands.{observation_count}
use Rattle.rules.specs.Rules.Listing.{answer_lines}
use Rattle.listing.specs.Lines.{observations_in, printed}

-- the words of a trace stand for the trace
pub observations-words : (os : List Observation) (rest : List ℕ) → observations_in (length os) (trace_words os ++ rest) ≡ os
unfolding observations_in trace_words
observations-words [] rest = refl
observations-words (o ∷ os) rest = ap (λ (later : List Observation). o ∷ later) (observations-words os rest)

-- an answer that counts the observations whose words stand at the front
pub printed-words : (n : ℕ) (os : List Observation) (rest : List ℕ) (a : RunAnswer) → observation_count a.outcome ≡ length os
    → printed n a (trace_words os ++ rest) ≡ answer_lines n os a
unfolding printed
printed-words n os rest a e =
    ap (λ (trace : List Observation). answer_lines n trace a) (ap (λ (k : ℕ). observations_in k (trace_words os ++ rest)) e ∙ observations-words os rest)

-- what a run reports, with its trace area after the call
pub printed-report : (n : ℕ) (job : Job) (r : Result) (area : List ℕ)
    → printed n (run_report job r) (written (trace_words r.gathered.trace) area) ≡ answer_lines n r.gathered.trace (run_report job r)
unfolding written run_report counts
printed-report n job r area =
    printed-words n r.gathered.trace (drop (length (trace_words r.gathered.trace)) area) (run_report job r) refl

-- a refused job, whatever stands in the area
pub printed-refused : (n : ℕ) (cause : Refusal) (trace : List ℕ) → printed n (run_refused cause) trace ≡ answer_lines 0 [] (run_refused cause)
unfolding printed answer_lines run_refused
printed-refused n cause trace = refl
