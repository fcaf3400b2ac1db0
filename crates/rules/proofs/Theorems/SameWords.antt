-- Two lists compared word by word: what a loop over both needs of `same_words`.
-- Assumes nothing.
use Rattle.std.specs.Prelude.{◌≡◌, refl, Bool, true, false, ◌&&◌, List, [], ◌∷◌, ℕ, suc, ◌+◌, ◌<◌, ◌≤◌, eqb, length, get_or, drop}
use Rattle.std.proofs.Common.{ap, add-one, arith, drop_of_length-le, drop-cons}
use Prim.{⊥}
use Rattle.rules.specs.Rules.Pairs.{same_words}

pub same_step : (a b : List ℕ) (i : ℕ) → i < length a → i < length b
    → same_words (drop i a) (drop i b) ≡ (eqb (get_or a i 0) (get_or b i 0) && same_words (drop (i + 1) a) (drop (i + 1) b))
unfolding same_words
same_step a b i ha hb = rw (add-one, drop-cons a i 0 ha, drop-cons b i 0 hb)

pub other_length : (a b : List ℕ) → (length a ≡ length b → ⊥) → false ≡ same_words a b
unfolding same_words
other_length [] [] h = absurd (h refl)
other_length [] (y ∷ b) h = refl
other_length (x ∷ a) [] h = refl
other_length (x ∷ a) (y ∷ b) h = either (eqb x y) (other_length a b (λ e. h (ap suc e)))
  where
    either : (t : Bool) → false ≡ same_words a b → false ≡ (t && same_words a b)
    either true e = e
    either false e = refl

-- no word is left in either
pub both_done : (a b : List ℕ) (i : ℕ) → length a ≤ i → length a ≡ length b → same_words (drop i a) (drop i b) ≡ true
unfolding same_words
both_done a b i h e = rw (drop_of_length-le a {i = i} h, drop_of_length-le b {i = i} (omega arith))
