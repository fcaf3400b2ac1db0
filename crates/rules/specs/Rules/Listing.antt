-- The printed run, as bytes.
-- Assumes nothing.
use Rattle.std.specs.Prelude.{◌&&◌, cond, List, [], ◌∷◌, ◌++◌, ℕ, zero, suc, ◌+◌, ◌-◌, ◌/◌, ◌%◌, eqb, ltb, get_or, Ok, Err}
use Rattle.location.specs.declared.LocationSet.{LocationSet}
use Rattle.location.specs.Sets.{registers, limit, member}
use Rattle.rules.specs.declared.Verdict.{Verdict}
use Rattle.rules.specs.declared.Counts.{Counts}
use Rattle.rules.specs.declared.First.{First}
use Rattle.rules.specs.declared.RunAnswer.{RunAnswer}
use Rattle.rules.specs.Rules.Outcomes.{RunOutcome}
use Rattle.rules.specs.Rules.Instructions.{Observation, pc_kind}
use Rattle.rules.specs.Rules.Firsts.{no_report}
use Rattle.rules.specs.Rules.Plain.{end_place}
use Rattle.rules.specs.Rules.Runs.{mispredicting_run}
use Rattle.rules.specs.Rules.Answers.{text, stop_word, verdict_word, cause_word, refusal_number}
use Rattle.rules.specs.Rules.JobFile.{Parsed, accepted, rejected, parse}
use Rattle.rules.specs.Rules.Calls.{run_report, run_refused}

-- the decimal digits of a number, before other bytes; a word of 64 bits has at most 20
unfoldable pub digits : ℕ → ℕ → List ℕ → List ℕ
digits zero n rest = rest
digits (suc k) n rest = cond (ltb n 10) ((48 + n) ∷ rest) (digits k (n / 10) ((48 + n % 10) ∷ rest))

unfoldable pub decimal : ℕ → List ℕ
decimal n = digits 20 n []

-- a line of a word and what follows it
unfoldable pub line : List ℕ → List ℕ → List ℕ
line word rest = word ++ rest ++ (10 ∷ [])

unfoldable pub number_line : List ℕ → ℕ → List ℕ
number_line word n = line word (32 ∷ decimal n)

-- the words of the kinds of observation, by their numbers; the last stands for every other number, which is in no trace
unfoldable pub kind_word : ℕ → List ℕ
kind_word k = get_or (text "start" ∷ text "rollback" ∷ text "pc" ∷ text "load" ∷ []) k (text "store")

-- "decimal, END as "end"": only a place is END
unfoldable pub value_text : ℕ → Observation → List ℕ
value_text n o = cond (eqb o.kind pc_kind && eqb o.value n) (text "end") (decimal o.value)

-- "Observations first": of a program with n instructions
unfoldable pub observation_line : ℕ → Observation → List ℕ
observation_line n o = line (kind_word o.kind) (32 ∷ value_text n o)

unfoldable pub trace_lines : ℕ → List Observation → List ℕ
trace_lines n [] = []
trace_lines n (o ∷ os) = observation_line n o ++ trace_lines n os

-- "r register, m cell"
unfoldable pub location_text : ℕ → List ℕ
location_text l = cond (ltb l registers) (text " r" ++ decimal l) (text " m" ++ decimal (l - registers))

-- "ascending": the members of a set among k locations from l on
unfoldable pub members : LocationSet → ℕ → ℕ → List ℕ
members s l zero = []
members s l (suc k) = cond (member s l) (location_text l) [] ++ members s (l + 1) k

-- "the word alone if empty"
unfoldable pub set_line : List ℕ → LocationSet → List ℕ
set_line word s = line word (members s 0 limit)

-- "then the stop, counts, D, plain set, verdict"
unfoldable pub summary : Counts → LocationSet → LocationSet → Verdict → List ℕ
summary c full plain v =
    line (text "stop ") (stop_word c.stop)
    ++ number_line (text "steps") c.steps
    ++ number_line (text "rollbacks") c.rollbacks
    ++ set_line (text "depends") full
    ++ set_line (text "plain") plain
    ++ line (text "verdict ") (verdict_word v)

-- "first r0 0 branch 1": the location, the index, the rule and the label
unfoldable pub first_line : ℕ → First → List ℕ
first_line l x = line (text "first") (location_text l ++ 32 ∷ decimal x.index ++ 32 ∷ cause_word x.cause ++ 32 ∷ decimal x.label)

-- "The listing gains a line for each, after the verdict, in ascending location": of the k locations from l on those in the set, which is D
unfoldable pub first_lines : LocationSet → List First → ℕ → ℕ → List ℕ
first_lines s xs l zero = []
first_lines s xs l (suc k) = cond (member s l) (first_line l (get_or xs l no_report)) [] ++ first_lines s xs (l + 1) k

-- "A refusal prints "refused" and its number alone."
abbrev pub outcome_lines : ℕ → List Observation → LocationSet → LocationSet → List First → RunOutcome → List ℕ
outcome_lines n os full plain xs (Err r) = number_line (text "refused") (refusal_number r)
outcome_lines n os full plain xs (Ok x) = trace_lines n os ++ summary x.counts full plain x.verdict ++ first_lines full xs 0 limit

-- an answer with its trace, of a program with n instructions
unfoldable pub answer_lines : ℕ → List Observation → RunAnswer → List ℕ
answer_lines n os a = outcome_lines n os a.full a.plain a.firsts a.outcome

-- "lends 512 observations"
abbrev pub printed_room : ℕ
printed_room = 512

-- the lines of a run that is lent room for k observations
unfoldable pub listing_of : ℕ → Parsed → List ℕ
listing_of k (rejected r) = answer_lines 0 [] (run_refused r)
listing_of k (accepted job) =
    let r = mispredicting_run job k in
    answer_lines (end_place job.code) r.gathered.trace (run_report job r)

unfoldable pub listing : List ℕ → List ℕ
listing file = listing_of printed_room (parse file)
