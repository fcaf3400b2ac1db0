-- The decimal digits, written into a buffer from its end.
-- Assumes nothing.
use mathlib.Core.Path.{◌≡◌, sym, ap, ◌∙◌}
use mathlib.Core.List.{List, [], ◌∷◌}
use Prim.Native.Nat.{ℕ, zero, suc, ◌+◌, ◌-◌, ◌/◌, ◌%◌, ◌^◌, ◌<◌, ◌≤◌}
use native.Mathlib.Nat.{pow-suc}
use native.Mathlib.Omega.{arith}
use lib.ListN.{length, take, drop, set, length-set, length-drop, drop_of_length-le}
use lib.Seq.{take_all, drop-cons, get_or-set_same, drop-set-lt}
use borrow.Author.Tests.{lt-ltb, le-ltb}
use Rattle.rules.specs.Rules.Listing.{digits}

-- all but the highest digit, and the highest
digit_more : (k n : ℕ) (rest : List ℕ) → 10 ≤ n → digits (suc k) n rest ≡ digits k (n / 10) ((48 + n % 10) ∷ rest)
unfolding digits
digit_more k n rest h = rw (le-ltb n 10 h)

digit_last : (k n : ℕ) (rest : List ℕ) → n < 10 → digits (suc k) n rest ≡ (48 + n) ∷ rest
unfolding digits
digit_last k n rest h = rw (lt-ltb n 10 h)

drop-set : (b : List ℕ) (i v : ℕ) → i < length b → drop i (set b i v) ≡ v ∷ drop (suc i) b
drop-set b i v h =
    let h' : i < length (set b i v) = omega (arith, length-set b i v) in
    drop-cons (set b i v) i 0 h' ∙ rw (get_or-set_same b i v 0 h, drop-set-lt (suc i) b i v (omega arith))

-- What the loop has at i: the number's digits are those of what is left of it, and then those in the buffer.
pub record Found (n : ℕ) (b : List ℕ) (rest i : ℕ) : Type 0 where
  pub inside : i < length b
  pub small : rest < 10 ^ suc i
  pub same : digits (suc i) rest (drop (suc i) b) ≡ digits 20 n []

pub found_none : (n : ℕ) (b : List ℕ) → length b ≡ 20 → n < 2 ^ 64 → Found n b n 19
found_none n b l h = record { inside = omega arith; small = omega arith; same = ap (digits 20 n) (drop_of_length-le b {i = 20} (omega arith)) }

module _ {n rest : ℕ} {b : List ℕ} where
  pub found-positive : (i : ℕ) → Found n b rest i → 10 ≤ rest → 1 ≤ i
  found-positive zero f h = absurd (omega (arith, f.small))
  found-positive (suc i) f h = omega arith

  pub found-more : (i : ℕ) → Found n b rest i → 10 ≤ rest → Found n (set b i (48 + rest % 10)) (rest / 10) (i - 1)
  found-more zero f h = absurd (omega (arith, f.small))
  found-more (suc i) f h =
      let e : suc i - 1 ≡ i = omega arith in
      rw e (record {
        inside = omega (arith, f.inside, length-set b (suc i) (48 + rest % 10));
        small = omega (arith, f.small, pow-suc 10 (suc i));
        same =
            ap (digits (suc i) (rest / 10)) (drop-set b (suc i) (48 + rest % 10) f.inside)
            ∙ sym (digit_more (suc i) rest (drop (suc (suc i)) b) h)
            ∙ f.same;
      })

  pub found_all : (i : ℕ) → Found n b rest i → rest < 10 → drop i (set b i (48 + rest)) ≡ digits 20 n []
  found_all i f h = drop-set b i (48 + rest) f.inside ∙ sym (digit_last i rest (drop (suc i) b) h) ∙ f.same

-- the part of the buffer that is printed
pub digits-part : (b d : List ℕ) (i : ℕ) → length b ≡ 20 → drop i b ≡ d → take (20 - i) (drop i b) ≡ d
digits-part b d i l e = take_all (20 - i) (drop i b) (omega (arith, length-drop i b)) ∙ e
