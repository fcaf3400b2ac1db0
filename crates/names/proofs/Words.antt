-- Two lists of bytes that are the same, as the code and as the rules say it.
-- Assumes nothing.
use Rattle.std.proofs.Common.{◌≡◌, refl, ap, ℕ, Bool, ◌&&◌, eqb, List, [], ◌∷◌, nat_eq}
use lib.Pointwise.{pointwise}
use Rattle.rules.specs.Rules.Pairs.{same_words}

pub same-bytes : (a b : List ℕ) → pointwise nat_eq a b ≡ same_words a b
unfolding same_words
same-bytes [] [] = refl
same-bytes [] (y ∷ b) = refl
same-bytes (x ∷ a) [] = refl
same-bytes (x ∷ a) (y ∷ b) = ap (λ (t : Bool). eqb x y && t) (same-bytes a b)
