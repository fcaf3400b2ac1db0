-- How each loop goes on from one observation to the next, and what is left when it is done.
-- Assumes nothing.
use mathlib.Core.Path.{◌≡◌, refl, ap}
use mathlib.Core.Bool.{Bool, true, false, ◌&&◌, cond}
use mathlib.Core.List.{List, [], ◌∷◌}
use Prim.Native.Nat.{ℕ, ◌-◌, ◌<◌, ◌≤◌}
use native.Mathlib.Nat.{le_refl}
use native.Mathlib.Omega.{arith}
use borrow.Author.Tests.{ltb-true, ltb-false}
use lib.Dec.{eqb, ltb}
use lib.ListN.{length, get_or, take, drop}
use lib.Seq.{take-length}
use Rattle.std.specs.Cmp.Lexicographic.{pointwise}
use Rattle.rules.specs.Rules.Instructions.{start_kind, rollback_kind}
use Rattle.rules.specs.Rules.Pairs.{same_words}
use Rattle.trace.specs.Struck.{struck_words, struck_to, Outside}

-- word for word is what `==` on slices says
pub by_words : (a b : List ℕ) → pointwise eqb a b ≡ same_words a b
unfolding same_words
by_words [] [] = refl
by_words [] (y ∷ b) = refl
by_words (x ∷ a) [] = refl
by_words (x ∷ a) (y ∷ b) = ap (λ (z : Bool). eqb x y && z) (by_words a b)

-- what stands behind the first observation, as the code's pattern gives it
pub behind : (t : List ℕ) → take (length t - 2) (drop 2 t) ≡ drop 2 t
behind [] = refl
behind (k ∷ []) = refl
behind (k ∷ v ∷ t) = let e : length (k ∷ v ∷ t) - 2 ≡ length t = omega arith in rw e (take-length t)

-- ---- the search for a rollback
pub closes-step : (t : List ℕ) (id : ℕ) → 2 ≤ length t
    → struck_to t id
    ≡ cond (eqb (get_or t 0 0) rollback_kind && eqb (get_or t 1 0) id) (struck_words (drop 2 t)) (struck_to (drop 2 t) id)
unfolding struck_to
closes-step [] id h = absurd (omega arith)
closes-step (k ∷ []) id h = absurd (omega arith)
closes-step (k ∷ v ∷ t) id h = refl

-- less than an observation is left
pub none_left : (t : List ℕ) → length t < 2 → struck_words t ≡ []
unfolding struck_words
none_left [] h = refl
none_left (k ∷ []) h = refl
none_left (k ∷ v ∷ t) h = absurd (omega arith)

pub none-left_to : (t : List ℕ) (id : ℕ) → length t < 2 → struck_to t id ≡ struck_words t
unfolding struck_words struck_to
none-left_to [] id h = refl
none-left_to (k ∷ []) id h = refl
none-left_to (k ∷ v ∷ t) id h = absurd (omega arith)

-- ---- the search for an observation that is not struck out
pub start-step : (t : List ℕ) → 2 ≤ length t
    → struck_words t
    ≡ cond (eqb (get_or t 0 0) start_kind) (struck_to (drop 2 t) (get_or t 1 0)) (get_or t 0 0 ∷ get_or t 1 0 ∷ struck_words (drop 2 t))
unfolding struck_words
start-step [] h = absurd (omega arith)
start-step (k ∷ []) h = absurd (omega arith)
start-step (k ∷ v ∷ t) h = refl

-- ---- two struck-out traces compared
-- what is not struck out is the rest of itself
pub settled : {t left : List ℕ} → Outside t left → Outside left left
settled {left = left} x = record { shorter = le_refl (length left); same = refl; kept = x.kept }

joined : (x y z : Bool) → (x && (y && z)) ≡ ((x && y) && z)
joined true y z = refl
joined false y z = refl

module _ (a b : List ℕ) where
  abbrev rest : List ℕ → List ℕ → Bool
  rest x y = same_words (struck_words x) (struck_words y)

  -- both go on
  pub struck-step : Outside a a → Outside b b → 2 ≤ length a → 2 ≤ length b
      → rest a b ≡ ((eqb (get_or a 0 0) (get_or b 0 0) && eqb (get_or a 1 0) (get_or b 1 0)) && rest (drop 2 a) (drop 2 b))
  unfolding same_words
  struck-step x y h k =
      rw (x.kept h, y.kept k)
      (joined (eqb (get_or a 0 0) (get_or b 0 0)) (eqb (get_or a 1 0) (get_or b 1 0)) (rest (drop 2 a) (drop 2 b)))

  -- the second has ended, the first goes on
  pub second_ended : Outside a a → 2 ≤ length a → length b < 2 → rest a b ≡ false
  unfolding same_words
  second_ended x h k = rw (x.kept h, none_left b k)

  -- the first has ended
  pub first_ended : Outside b b → length a < 2 → ltb (length b) 2 ≡ rest a b
  unfolding same_words
  first_ended y h = by (ltb (length b) 2) refl
    where
      by : (t : Bool) → ltb (length b) 2 ≡ t → t ≡ rest a b
      by true e = rw (none_left a h, none_left b (ltb-true (length b) 2 e))
      by false e = rw (none_left a h, y.kept (ltb-false (length b) 2 e))
