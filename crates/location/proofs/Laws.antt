-- How the code's arrays meet the definitions of sets.
-- Assumes nothing.
use mathlib.Core.Path.{◌≡◌, refl, ap, ap₂, ◌∙◌}
use mathlib.Core.Bool.{Bool, true, false, ◌&&◌}
use mathlib.Core.List.{List, [], ◌∷◌}
use Prim.Native.Nat.{ℕ, zero, suc, ◌*◌, ◌%◌, ◌^◌, ◌<◌}
use native.Mathlib.Nat.{mod-eq_of_lt, one-mul}
use native.Mathlib.Omega.{arith}
use lib.Bits.{bit_or, bit_xor, and_le_l, and_le_r, or_add_and, xor_add_and, xor_self}
use lib.Dec.{eqb}
use lib.ListN.{length, get_or}
use lib.Pow.{pow-lt}
use borrow.Author.Tests.{eqb-true, eqb-false, ne_eqb}
use Rattle.location.specs.Sets.{either, inside}

-- ---- one test for all words: the bits that a union has and its second set has not
xor-zero : (x y : ℕ) → bit_xor x y ≡ 0 → x ≡ y
xor-zero x y e =
    let s = xor_add_and x y in
    let l = and_le_l x y in
    let r = and_le_r x y in
    omega arith

or-zero : (x y : ℕ) → bit_or x y ≡ 0 → (x ≡ 0) × (y ≡ 0)
or-zero x y e =
    let s = or_add_and x y in
    let l = and_le_l x y in
    let r = and_le_r x y in
    (omega arith, omega arith)

zero_test : (x y : ℕ) → eqb (bit_or x y) 0 ≡ eqb x 0 && eqb y 0
zero_test x y = go (eqb x 0) (eqb y 0) refl refl
  where
    go : (a b : Bool) → eqb x 0 ≡ a → eqb y 0 ≡ b → eqb (bit_or x y) 0 ≡ a && b
    go true true p q = rw (eqb-true x 0 p, eqb-true y 0 q) refl
    go true false p q = ne_eqb (bit_or x y) 0 (λ e. eqb-false y 0 q (or-zero x y e).1)
    go false b p q = ne_eqb (bit_or x y) 0 (λ e. eqb-false x 0 p (or-zero x y e).0)

same_test : (x y : ℕ) → eqb (bit_xor x y) 0 ≡ eqb x y
same_test x y = go (eqb x y) refl
  where
    go : (a : Bool) → eqb x y ≡ a → eqb (bit_xor x y) 0 ≡ a
    go true p = rw (eqb-true x y p, xor_self y) refl
    go false p = ne_eqb (bit_xor x y) 0 (λ e. eqb-false x y p (xor-zero x y e))

-- what word x has more than word y
abbrev pub beyond : ℕ → ℕ → ℕ
beyond x y = bit_xor (bit_or x y) y

listed-inside : (a b c d e f g h : ℕ) → eqb (bit_or (bit_or (beyond a e) (beyond b f)) (bit_or (beyond c g) (beyond d h))) 0
    ≡ inside (a ∷ b ∷ c ∷ d ∷ []) (e ∷ f ∷ g ∷ h ∷ [])
unfolding inside
listed-inside a b c d e f g h =
    zero_test (bit_or (beyond a e) (beyond b f)) (bit_or (beyond c g) (beyond d h))
    ∙ ap₂ (λ (m n : Bool). m && n) (zero_test (beyond a e) (beyond b f)) (zero_test (beyond c g) (beyond d h))
    ∙ (λ i. (same_test (bit_or a e) e i && same_test (bit_or b f) f i) && (same_test (bit_or c g) g i && same_test (bit_or d h) h i))
    ∙ regroup (eqb (bit_or a e) e) (eqb (bit_or b f) f) (eqb (bit_or c g) g) (eqb (bit_or d h) h)
  where
    regroup : (k l m n : Bool) → ((k && l) && (m && n)) ≡ (k && (l && (m && (n && true))))
    regroup false l m n = refl
    regroup true false m n = refl
    regroup true true false n = refl
    regroup true true true false = refl
    regroup true true true true = refl

-- a list of four words
pub four : (l : List ℕ) → length l ≡ 4 → get_or l 0 0 ∷ get_or l 1 0 ∷ get_or l 2 0 ∷ get_or l 3 0 ∷ [] ≡ l
four [] h = absurd (omega arith)
four (a ∷ []) h = absurd (omega arith)
four (a ∷ b ∷ []) h = absurd (omega arith)
four (a ∷ b ∷ c ∷ []) h = absurd (omega arith)
four (a ∷ b ∷ c ∷ d ∷ []) h = refl
four (a ∷ b ∷ c ∷ d ∷ e ∷ l) h = absurd (omega arith)

pub inside_four : (s t : List ℕ) → length s ≡ 4 → length t ≡ 4
    → eqb (bit_or (bit_or (beyond (get_or s 0 0) (get_or t 0 0)) (beyond (get_or s 1 0) (get_or t 1 0)))
    (bit_or (beyond (get_or s 2 0) (get_or t 2 0)) (beyond (get_or s 3 0) (get_or t 3 0)))) 0 ≡ inside s t
inside_four s t p q =
    listed-inside (get_or s 0 0) (get_or s 1 0) (get_or s 2 0) (get_or s 3 0) (get_or t 0 0) (get_or t 1 0) (get_or t 2 0) (get_or t 3 0)
    ∙ ap₂ inside (four s p) (four t q)

-- a list given by its elements
abbrev pub table : ℕ → (ℕ → ℕ) → List ℕ
table zero f = []
table (suc n) f = f 0 ∷ table n (λ i. f (suc i))

pub either-table : (n : ℕ) (s t : List ℕ) → length s ≡ n → length t ≡ n → table n (λ i. bit_or (get_or s i 0) (get_or t i 0)) ≡ either s t
unfolding either
either-table zero [] [] p q = refl
either-table zero [] (y ∷ t) p q = absurd (omega arith)
either-table zero (x ∷ s) t p q = absurd (omega arith)
either-table (suc n) [] t p q = absurd (omega arith)
either-table (suc n) (x ∷ s) [] p q = absurd (omega arith)
either-table (suc n) (x ∷ s) (y ∷ t) p q = ap (λ (r : List ℕ). bit_or x y ∷ r) (either-table n s t (omega arith) (omega arith))

-- the code's `1 << k`
pub word-bit : (k : ℕ) → k < 64 → 1 * 2 ^ k % 2 ^ 64 ≡ 2 ^ k
word-bit k h = rw (one-mul (2 ^ k)) (mod-eq_of_lt (pow-lt h))
