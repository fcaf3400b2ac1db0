-- How long a printed run can be: at most 30 bytes a line of the trace, and 31,086 bytes after them: 11,374 to the verdict, and 77 for each
-- of 256 locations.
-- Assumes nothing.
use Rattle.std.specs.Prelude.{◌≡◌, ◌&&◌, cond, List, [], ◌∷◌, ◌++◌, ℕ, zero, suc, ◌+◌, ◌-◌, ◌*◌, ◌≤◌, eqb, ltb, length, get_or, Ok, Err}
use Rattle.std.proofs.Common.{arith, length-append}
use Rattle.location.specs.declared.LocationSet.{LocationSet}
use Rattle.location.specs.Sets.{registers, limit, member}
use Rattle.rules.specs.declared.Stop.{Stop}
use Rattle.rules.specs.declared.Stop.TheVariants.{Finished, Spent, TraceFull, OutsideFull}
use Rattle.rules.specs.declared.Verdict.{Verdict}
use Rattle.rules.specs.declared.Verdict.TheVariants as verdicts
use Rattle.rules.specs.declared.Cause.{Cause}
use Rattle.rules.specs.declared.Cause.TheVariants as causes
use Rattle.rules.specs.declared.Counts.{Counts}
use Rattle.rules.specs.declared.First.{First}
use Rattle.rules.specs.Rules.Outcomes.{RunOutcome}
use Rattle.rules.specs.declared.RunAnswer.{RunAnswer}
use Rattle.rules.specs.Rules.Instructions.{Observation, pc_kind}
use Rattle.rules.specs.Rules.Firsts.{no_report}
use Rattle.rules.specs.Rules.Answers.{text, stop_word, verdict_word, cause_word, refusal_number}
use Rattle.rules.specs.Rules.Listing.{decimal, line, number_line, kind_word, value_text, observation_line, trace_lines, location_text, members, set_line}
use Rattle.rules.specs.Rules.Listing.{summary, first_line, first_lines, outcome_lines, answer_lines}
use Rattle.byte_writer.specs.Lengths.{cond-length, decimal-length}
use Rattle.listing.specs.Lines.{observations_in}

pub line-length : (word rest : List ℕ) → length (line word rest) ≡ length word + length rest + 1
unfolding line
line-length word rest = omega (arith, length-append (word ++ rest) (10 ∷ []), length-append word rest)

pub number-line_length : (word : List ℕ) (n : ℕ) → length (number_line word n) ≡ length word + 1 + length (decimal n) + 1
unfolding number_line
number-line_length word n = omega (arith, line-length word (32 ∷ decimal n))

pub number-line_bound : (word : List ℕ) (n : ℕ) → length (number_line word n) ≤ length word + 22
number-line_bound word n = omega (arith, number-line_length word n, decimal-length n)

-- ---- the trace
kind-length : (k : ℕ) → length (kind_word k) ≤ 8
unfolding kind_word text
kind-length zero = omega arith
kind-length (suc zero) = omega arith
kind-length (suc (suc zero)) = omega arith
kind-length (suc (suc (suc zero))) = omega arith
kind-length (suc (suc (suc (suc k)))) = omega arith

value-length : (n : ℕ) (o : Observation) → length (value_text n o) ≤ 20
unfolding value_text text
value-length n o =
    cond-length (eqb o.kind pc_kind && eqb o.value n) (text "end") (decimal o.value) 20 (omega arith) (decimal-length o.value)

observation_length : (n : ℕ) (o : Observation) → length (observation_line n o) ≤ 30
unfolding observation_line
observation_length n o = omega (arith, line-length (kind_word o.kind) (32 ∷ value_text n o), kind-length o.kind, value-length n o)

pub trace-length : (n : ℕ) (os : List Observation) → length (trace_lines n os) ≤ 30 * length os
unfolding trace_lines
trace-length n [] = omega arith
trace-length n (o ∷ os) = omega (arith, length-append (observation_line n o) (trace_lines n os), observation_length n o, trace-length n os)

-- two words an observation
pub observations-length : (k : ℕ) (ws : List ℕ) → 2 * length (observations_in k ws) ≤ length ws
unfolding observations_in
observations-length zero ws = omega arith
observations-length (suc k) [] = omega arith
observations-length (suc k) (x ∷ []) = omega arith
observations-length (suc k) (x ∷ v ∷ ws) = omega (arith, observations-length k ws)

-- ---- the sets
location-length : (l : ℕ) → length (location_text l) ≤ 22
unfolding location_text text
location-length l =
    cond-length (ltb l registers) (text " r" ++ decimal l) (text " m" ++ decimal (l - registers)) 22 (omega (arith, decimal-length l))
    (omega (arith, decimal-length (l - registers)))

members-length : (s : LocationSet) (l k : ℕ) → length (members s l k) ≤ 22 * k
unfolding members
members-length s l zero = omega arith
members-length s l (suc k) =
    omega (
      arith,
      length-append (cond (member s l) (location_text l) []) (members s (l + 1) k),
      cond-length (member s l) (location_text l) [] 22 (location-length l) (omega arith),
      members-length s (l + 1) k,
    )

pub set-line_length : (word : List ℕ) (s : LocationSet) → length (set_line word s) ≡ length word + length (members s 0 limit) + 1
unfolding set_line
set-line_length word s = line-length word (members s 0 limit)

-- ---- the summary
stop-length : (s : Stop) → length (stop_word s) ≤ 12
unfolding text
stop-length Finished = omega arith
stop-length Spent = omega arith
stop-length TraceFull = omega arith
stop-length OutsideFull = omega arith

verdict-length : (v : Verdict) → length (verdict_word v) ≤ 11
unfolding text
verdict-length verdicts.Undecided = omega arith
verdict-length verdicts.Clean = omega arith
verdict-length verdicts.Speculative = omega arith
verdict-length verdicts.Plain = omega arith

pub summary-length : (c : Counts) (full plain : LocationSet) (v : Verdict)
    → length (summary c full plain v)
    ≡ length (line (text "stop ") (stop_word c.stop))
    + length (number_line (text "steps") c.steps)
    + length (number_line (text "rollbacks") c.rollbacks)
    + length (set_line (text "depends") full)
    + length (set_line (text "plain") plain)
    + length (line (text "verdict ") (verdict_word v))
unfolding summary
summary-length c full plain v = simp length-append

pub summary-bound : (c : Counts) (full plain : LocationSet) (v : Verdict) → length (summary c full plain v) ≤ 11374
unfolding text
summary-bound c full plain v =
    omega (
      arith,
      summary-length c full plain v,
      line-length (text "stop ") (stop_word c.stop),
      stop-length c.stop,
      number-line_bound (text "steps") c.steps,
      number-line_bound (text "rollbacks") c.rollbacks,
      set-line_length (text "depends") full,
      members-length full 0 limit,
      set-line_length (text "plain") plain,
      members-length plain 0 limit,
      line-length (text "verdict ") (verdict_word v),
      verdict-length v,
    )

-- ---- what brought each location into D
cause-length : (x : Cause) → length (cause_word x) ≤ 6
unfolding text
cause-length causes.Branch = omega arith
cause-length causes.Jump = omega arith
cause-length causes.Load = omega arith
cause-length causes.Store = omega arith

pub first-line_length : (l : ℕ) (x : First)
    → length (first_line l x)
    ≡ 9 + length (location_text l) + length (decimal x.index) + length (cause_word x.cause) + length (decimal x.label)
unfolding first_line line text
first-line_length l x = simp length-append (omega arith)

first-line_bound : (l : ℕ) (x : First) → length (first_line l x) ≤ 77
first-line_bound l x =
    omega (
      arith,
      first-line_length l x,
      location-length l,
      decimal-length x.index,
      cause-length x.cause,
      decimal-length x.label,
    )

first-lines_length : (s : LocationSet) (xs : List First) (l k : ℕ) → length (first_lines s xs l k) ≤ 77 * k
unfolding first_lines
first-lines_length s xs l zero = omega arith
first-lines_length s xs l (suc k) =
    let x = get_or xs l no_report in
    omega (
      arith,
      length-append (cond (member s l) (first_line l x) []) (first_lines s xs (l + 1) k),
      cond-length (member s l) (first_line l x) [] 77 (first-line_bound l x) (omega arith),
      first-lines_length s xs (l + 1) k,
    )

pub first-lines_bound : (s : LocationSet) (xs : List First) → length (first_lines s xs 0 limit) ≤ 19712
first-lines_bound s xs = omega (arith, first-lines_length s xs 0 limit)

-- ---- the whole
outcome-bound : (n : ℕ) (os : List Observation) (full plain : LocationSet) (xs : List First) (o : RunOutcome)
    → length (outcome_lines n os full plain xs o) ≤ 30 * length os + 31086
unfolding text
outcome-bound n os full plain xs (Err r) = omega (arith, number-line_bound (text "refused") (refusal_number r))
outcome-bound n os full plain xs (Ok x) =
    omega (
      arith,
      length-append (trace_lines n os ++ summary x.counts full plain x.verdict) (first_lines full xs 0 limit),
      length-append (trace_lines n os) (summary x.counts full plain x.verdict),
      trace-length n os,
      summary-bound x.counts full plain x.verdict,
      first-lines_bound full xs,
    )

pub answer-bound : (n : ℕ) (os : List Observation) (a : RunAnswer) → length (answer_lines n os a) ≤ 30 * length os + 31086
unfolding answer_lines
answer-bound n os a = outcome-bound n os a.full a.plain a.firsts a.outcome
