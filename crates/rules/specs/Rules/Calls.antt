-- What a run and a plain run return, and what they leave in every word that they are lent.
-- Assumes nothing.
use Rattle.std.specs.Prelude.{Bool, true, false, ◌&&◌, List, [], ◌∷◌, ◌++◌, ℕ, zero, suc, ◌+◌, ◌*◌, ◌/◌, leb, length, drop, replicate, Ok, Err}
use Rattle.location.specs.Sets.{empty}
use Rattle.rules.specs.declared.Refusal.{Refusal}
use Rattle.rules.specs.declared.Refusal.TheVariants as refusals
use Rattle.rules.specs.declared.Counts.{Counts}
use Rattle.rules.specs.declared.RunAnswer.{RunAnswer}
use Rattle.rules.specs.declared.PlainAnswer.{PlainAnswer}
use Rattle.rules.specs.Rules.Outcomes.{judged}
use Rattle.rules.specs.Rules.Limits.{max_entries}
use Rattle.rules.specs.Rules.Instructions.{Observation}
use Rattle.rules.specs.Rules.Firsts.{firsts_of}
use Rattle.rules.specs.Rules.Plain.{State, Entry, values}
use Rattle.rules.specs.Rules.Runs.{Job, Result, mispredicting_run, plain_run, verdict}
use Rattle.rules.specs.Rules.JobFile.{Parsed, accepted, rejected, parse}
use Rattle.rules.specs.Rules.Costs.{tabled}

-- "two an observation": its kind, "then the value"
abbrev pub observation_words : Observation → List ℕ
observation_words o = o.kind ∷ o.value ∷ []

unfoldable pub trace_words : List Observation → List ℕ
trace_words [] = []
trace_words (o ∷ os) = observation_words o ++ trace_words os

-- "A trace area of 64-bit words, two an observation, an odd last word untouched"; "The end area grows to 16 + m + 129 words"; "a working
-- area of 4,096 words".
pub record Areas : Type 0 where
  pub trace : List ℕ
  pub end : List ℕ
  pub work : List ℕ

-- the three areas, by what each holds
abbrev pub lent : List ℕ → List ℕ → List ℕ → Areas
lent trace ends work = record { trace = trace; end = ends; work = work }

-- how many observations an area has room for
unfoldable pub room : List ℕ → ℕ
room area = length area / 2

-- n words: those of a list, "zeros after"
unfoldable pub padded : ℕ → List ℕ → List ℕ
padded zero ws = []
padded (suc n) [] = 0 ∷ padded n []
padded (suc n) (w ∷ ws) = w ∷ padded n ws

-- "each entry's address and value side by side, in order of first store"
unfoldable pub entry_words : List Entry → List ℕ
entry_words [] = []
entry_words (e ∷ es) = e.address ∷ e.word.value ∷ entry_words es

-- the words of a table in the end area, 129: the count, and two for each of 64 entries
abbrev pub table_size : ℕ
table_size = 1 + 2 * max_entries

-- "the entry count, then each entry's address and value side by side, in order of first store, zeros after"
unfoldable pub table_words : List Entry → List ℕ
table_words es = padded table_size (length es ∷ entry_words es)

-- "registers then cells as they are at that moment", then the table
unfoldable pub end_words : State → List ℕ
end_words σ = values σ.inside ++ table_words σ.outside

abbrev pub working_words : ℕ
working_words = 4096

-- "working or end area too short": "the area test of 10 uses the new length"
unfoldable pub long_enough : Job → Areas → Bool
long_enough job a = leb working_words (length a.work) && leb (length job.init + table_size) (length a.end)

-- an area with these words from the front: "All other words keep their contents."
unfoldable pub written : List ℕ → List ℕ → List ℕ
written ws area = ws ++ drop (length ws) area

-- "After it, written observations stand from the front, the end area holds registers then cells as they are at that moment" and the
-- table, "and the 4,096 working words are 0."
unfoldable pub areas_after : Result → Areas → Areas
areas_after r a = record {
  trace = written (trace_words r.gathered.trace) a.trace;
  end = written (end_words r.last.state) a.end;
  work = written (replicate working_words 0) a.work;
}

-- an answer with the areas after the call: of any call, by its answers and its areas
pub record Called (A B : Type 0) : Type 0 where
  pub answer : A
  pub areas : B

-- ---- a run
unfoldable pub counts : Result → Counts
counts r = record { stop = r.stop; observations = length r.gathered.trace; steps = r.gathered.steps; rollbacks = r.gathered.rollbacks }

-- "A run returns its stop, observation count, steps, rollbacks, D, plain set and verdict."; and for each location which observation brought
-- it into D.
unfoldable pub run_report : Job → Result → RunAnswer
run_report job r = record {
  outcome = Ok (judged (counts r) (verdict job r));
  full = r.gathered.full;
  plain = r.gathered.plain;
  firsts = firsts_of r.gathered.sets;
}

-- "number only": nothing was observed
unfoldable pub run_refused : Refusal → RunAnswer
run_refused n = record { outcome = Err n; full = empty; plain = empty; firsts = firsts_of [] }

unfoldable pub run_parsed : Parsed → Areas → Called RunAnswer Areas
run_parsed (rejected n) a = record { answer = run_refused n; areas = a }
run_parsed (accepted job) a =
    let r = mispredicting_run job (room a.trace) in
    elim (long_enough job a) [
      | false ↦ record { answer = run_refused refusals.Areas; areas = a }
      | true ↦ record { answer = run_report job r; areas = areas_after r a }
    ]

-- document 01's call, by the fixed table
unfoldable pub fixed_run_call : List ℕ → Areas → Called RunAnswer Areas
fixed_run_call file a = run_parsed (parse file) a

-- F-7: "Every call with a mispredicting run takes one table"; 14 is "tested directly before 10"
unfoldable pub run_call : List ℕ → List ℕ → Areas → Called RunAnswer Areas
run_call file costs a = run_parsed (tabled (parse file) costs) a

-- ---- a plain run: "lent a run's areas, counts against b and stops in the same way, and returns its stop, observation count,
-- steps and plain set"
unfoldable pub plain_report : Result → PlainAnswer
plain_report r = record {
  outcome = Ok (record { stop = r.stop; observations = length r.gathered.trace; steps = r.gathered.steps });
  plain = r.gathered.plain;
}

unfoldable pub plain_refused : Refusal → PlainAnswer
plain_refused n = record { outcome = Err n; plain = empty }

unfoldable pub plain_parsed : Parsed → Areas → Called PlainAnswer Areas
plain_parsed (rejected n) a = record { answer = plain_refused n; areas = a }
plain_parsed (accepted job) a =
    let r = plain_run job (room a.trace) in
    elim (long_enough job a) [
      | false ↦ record { answer = plain_refused refusals.Areas; areas = a }
      | true ↦ record { answer = plain_report r; areas = areas_after r a }
    ]

unfoldable pub plain_call : List ℕ → Areas → Called PlainAnswer Areas
plain_call file a = plain_parsed (parse file) a
