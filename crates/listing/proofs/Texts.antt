-- The lines of the rules as the code writes them, case by case and part by part.
-- Assumes nothing.
use mathlib.Core.Path.{◌≡◌, refl, ap}
use mathlib.Core.Bool.{Bool, true, false}
use mathlib.Core.List.{List, [], ◌∷◌, ◌++◌}
use Prim.Native.Nat.{ℕ, zero, suc, ◌+◌, ◌-◌, ◌*◌, ◌<◌, ◌≤◌}
use native.Mathlib.Omega.{arith}
use lib.ListN.{length, get_or, drop, length-drop}
use lib.Seq.{drop-cons}
use Rattle.std.specs.Prelude.{◌&&◌, eqb, Ok, Err}
use borrow.Author.Tests.{eq-eqb, eqb-true}
use Rattle.location.specs.declared.LocationSet.{LocationSet}
use Rattle.location.specs.Sets.{limit}
use Rattle.rules.specs.declared.Counts.{Counts}
use Rattle.rules.specs.declared.First.{First}
use Rattle.rules.specs.declared.Verdict.{Verdict}
use Rattle.rules.specs.declared.Refusal.{Refusal}
use Rattle.rules.specs.Rules.Outcomes.{RunOutcome, judged}
use Rattle.rules.specs.declared.RunAnswer.{RunAnswer}
use Rattle.rules.specs.Rules.Instructions.{observed, pc_kind}
use Rattle.rules.specs.Rules.Firsts.{no_report}
use Rattle.rules.specs.Rules.Answers.{text, refusal_number}
use Rattle.rules.specs.Rules.Demands.{observation_count}
use Rattle.rules.specs.Rules.Listing.{line, number_line, kind_word, value_text, observation_line, trace_lines, members, summary}
use Rattle.rules.specs.Rules.Listing.{first_lines, outcome_lines, answer_lines}
use Rattle.listing.specs.Lines.{observations_in, member_text, report_text, printed}

both_false : (a b : Bool) → (a ≡ true → b ≡ true → ⊥) → (a && b) ≡ false
both_false true true h = absurd (h refl refl)
both_false true false h = refl
both_false false b h = refl

-- ---- an observation: a place at the end of the program, and every other
module _ (n k v : ℕ) where
  pub observation_end : k ≡ pc_kind → v ≡ n → observation_line n (observed k v) ≡ line (kind_word k) (text " end")
  unfolding observation_line value_text text
  observation_end e f = rw (e, f, eq-eqb n n refl)

  pub observation-number : (k ≡ pc_kind → v ≡ n → ⊥) → observation_line n (observed k v) ≡ number_line (kind_word k) v
  unfolding observation_line value_text number_line
  observation-number other = rw (both_false (eqb k pc_kind) (eqb v n) (λ e f. other (eqb-true k pc_kind e) (eqb-true v n f)))

-- ---- a trace observation by observation
pub trace-next : (n count : ℕ) (ws : List ℕ) (i : ℕ) → i < count → 2 * i + 1 < length ws
    → trace_lines n (observations_in (count - i) (drop (2 * i) ws))
    ≡ observation_line n (observed (get_or ws (2 * i) 0) (get_or ws (2 * i + 1) 0))
    ++ trace_lines n (observations_in (count - (i + 1)) (drop (2 * (i + 1)) ws))
unfolding trace_lines observations_in
trace-next n count ws i h r =
    let p : count - i ≡ suc (count - (i + 1)) = omega arith in
    let one : 2 * i + 1 ≡ suc (2 * i) = omega arith in
    let two : 2 * (i + 1) ≡ suc (suc (2 * i)) = omega arith in
    let e : drop (2 * i) ws ≡ get_or ws (2 * i) 0 ∷ get_or ws (suc (2 * i)) 0 ∷ drop (suc (suc (2 * i))) ws =
    rw (drop-cons ws (2 * i) 0 (omega arith), drop-cons ws (suc (2 * i)) 0 (omega arith)) in
    rw (p, one, two, e)

no_pair : (n k : ℕ) (ws : List ℕ) → (0 < k → length ws ≤ 1) → trace_lines n (observations_in k ws) ≡ []
unfolding trace_lines observations_in
no_pair n zero ws h = refl
no_pair n (suc k) [] h = refl
no_pair n (suc k) (x ∷ []) h = refl
no_pair n (suc k) (x ∷ v ∷ ws) h = absurd (omega (arith, h (omega arith)))

pub trace-over : (n count : ℕ) (ws : List ℕ) (i : ℕ) → (i < count → length ws ≤ 2 * i + 1)
    → trace_lines n (observations_in (count - i) (drop (2 * i) ws)) ≡ []
trace-over n count ws i h = no_pair n (count - i) (drop (2 * i) ws) (omega (arith, length-drop (2 * i) ws))

-- ---- the members of a set, location by location
pub members-next : (s : LocationSet) (l : ℕ) → l < limit → members s l (limit - l) ≡ member_text s l ++ members s (l + 1) (limit - (l + 1))
unfolding members
members-next s l h =
    let p : limit - l ≡ suc (limit - (l + 1)) = omega arith in
    rw p

-- ---- the reports, location by location
pub reports-next : (s : LocationSet) (xs : List First) (l : ℕ) → l < limit
    → first_lines s xs l (limit - l) ≡ report_text s l (get_or xs l no_report) ++ first_lines s xs (l + 1) (limit - (l + 1))
unfolding first_lines
reports-next s xs l h =
    let p : limit - l ≡ suc (limit - (l + 1)) = omega arith in
    rw p

-- ---- an answer by its outcome
module _ (n : ℕ) (a : RunAnswer) (trace : List ℕ) where
  pub printed_refusal : (cause : Refusal) → a.outcome ≡ Err cause → printed n a trace ≡ number_line (text "refused") (refusal_number cause)
  unfolding printed answer_lines
  printed_refusal cause e = ap (λ (o : RunOutcome). outcome_lines n (observations_in (observation_count o) trace) a.full a.plain a.firsts o) e

  pub printed-run : (c : Counts) (v : Verdict) → a.outcome ≡ Ok (judged c v)
      → printed n a trace
      ≡ trace_lines n (observations_in c.observations trace) ++ summary c a.full a.plain v ++ first_lines a.full a.firsts 0 limit
  unfolding printed answer_lines
  printed-run c v e = ap (λ (o : RunOutcome). outcome_lines n (observations_in (observation_count o) trace) a.full a.plain a.firsts o) e
