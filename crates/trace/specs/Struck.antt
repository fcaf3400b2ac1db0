-- Striking out, on the words of a trace: what `strike` of the rules does to observations.
-- Assumes nothing.
use Rattle.std.specs.Prelude.{◌≡◌, refl, Bool, true, false, ◌&&◌, cond, List, [], ◌∷◌, ℕ, ◌≤◌, eqb, length, get_or, drop}
use Rattle.std.proofs.Common.{ap}
use Rattle.rules.specs.Rules.Instructions.{Observation, start_kind, rollback_kind}
use Rattle.rules.specs.Rules.Calls.{trace_words}
use Rattle.rules.specs.Rules.Strike.{strike, strike_to}

-- the words, two an observation, with all from each outermost start to its rollback struck out; an odd last word is none
unfoldable mutual
  pub struck_words : List ℕ → List ℕ
  struck_words [] = []
  struck_words (k ∷ []) = []
  struck_words (k ∷ v ∷ ws) = cond (eqb k start_kind) (struck_to ws v) (k ∷ v ∷ struck_words ws)

  -- what follows the rollback of branch i, struck in its turn
  pub struck_to : List ℕ → ℕ → List ℕ
  struck_to [] i = []
  struck_to (k ∷ []) i = []
  struck_to (k ∷ v ∷ ws) i = cond (eqb k rollback_kind && eqb v i) (struck_words ws) (struck_to ws i)

-- What is left of trace t after the rollback of branch id.
pub record Closed (t : List ℕ) (id : ℕ) (left : List ℕ) : Type 0 where
  pub shorter : length left ≤ length t
  pub same : struck_to t id ≡ struck_words left

-- What is left of trace t from its first observation on that is not struck out, if there is one.
pub record Outside (t left : List ℕ) : Type 0 where
  pub shorter : length left ≤ length t
  pub same : struck_words t ≡ struck_words left
  pub kept : 2 ≤ length left → struck_words left ≡ get_or left 0 0 ∷ get_or left 1 0 ∷ struck_words (drop 2 left)

-- ---- laws
-- one of two traces
one_of_two : {ws vs : List ℕ} (b : Bool) (os ps : List Observation) → ws ≡ trace_words os → vs ≡ trace_words ps
    → cond b ws vs ≡ trace_words (cond b os ps)
one_of_two true os ps e f = e
one_of_two false os ps e f = f

-- on the words of observations it is the rules' striking out
mutual
  unfolding struck_words trace_words strike

  pub struck-trace : (os : List Observation) → struck_words (trace_words os) ≡ trace_words (strike os)
  struck-trace [] = refl
  struck-trace (o ∷ os) =
      one_of_two (eqb o.kind start_kind) (strike_to os o.value) (o ∷ strike os) (struck-trace_to os o.value)
      (ap (λ (ws : List ℕ). o.kind ∷ o.value ∷ ws) (struck-trace os))

  struck-trace_to : (os : List Observation) (i : ℕ) → struck_to (trace_words os) i ≡ trace_words (strike_to os i)
  struck-trace_to [] i = refl
  struck-trace_to (o ∷ os) i =
      one_of_two (eqb o.kind rollback_kind && eqb o.value i) (strike os) (strike_to os i) (struck-trace os) (struck-trace_to os i)
