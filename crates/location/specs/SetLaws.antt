-- The laws of sets, for any number of words, and what they say of location sets. "Laws of sets are proved once for any number of
-- words": the laws of union and inclusion stand whole, also those that no other proof cites.
-- Assumes nothing.
use Rattle.std.specs.Prelude.{◌≡◌, Bool, true, false, ◌&&◌, ◌||◌, List, [], ◌∷◌, ℕ, zero, suc, ◌+◌, ◌-◌, ◌*◌, ◌/◌, ◌%◌, ◌^◌, ◌<◌, ◌≤◌, max, eqb, ltb, length, get_or, replicate}
use Rattle.std.proofs.Math.Path.{refl}
use Rattle.std.proofs.Common.{sym, ap, ap₂, ◌∙◌, true≢false, div-one, div-add-mod', one-add, arith, pow_pos, shr-shr, get_or-set_same, eqb-true, eq-eqb, ltb-true}
use Rattle.std.proofs.Math.Nat.{div_self, zero-div, zero-max}
use Rattle.std.proofs.Math.Arith.{digits_mod, lt-one}
use Rattle.std.specs.Int.Bits.{bit_or, or_step, or_self, or_zero_l, or_zero_r}
use Rattle.std.proofs.lemmas.Nat.{or_shr, or_comm}
use Rattle.std.proofs.lemmas.List.{length-replicate}
use Rattle.std.proofs.Math.ListN.{get_or-eq_default}
use Rattle.std.proofs.Math.Seq.{set_out}
use Rattle.location.specs.declared.LocationSet.{LocationSet}
use Rattle.location.specs.Sets.{bit, has, bits_from, none, only, either, inside, empty, single, union, subset, member, rest}

-- ---- Bool
pub or_left : (a b : Bool) → a ≡ true → (a || b) ≡ true
or_left a b e = rw e

pub or_right : (a b : Bool) → b ≡ true → (a || b) ≡ true
or_right true b e = refl
or_right false b e = e

pub or_false : (b : Bool) → (b || false) ≡ b
or_false true = refl
or_false false = refl

pub or_mono : (a b c : Bool) → (a ≡ true → b ≡ true) → (a || c) ≡ true → (b || c) ≡ true
or_mono true b c f e = or_left b c (f refl)
or_mono false b c f e = or_right b c e

pub and_left : (a b : Bool) → (a && b) ≡ true → a ≡ true
and_left true b e = refl
and_left false b e = e

pub and_right : (a b : Bool) → (a && b) ≡ true → b ≡ true
and_right true b e = e
and_right false b e = absurd (true≢false (sym e))

pub and_true : (a b : Bool) → a ≡ true → b ≡ true → (a && b) ≡ true
and_true a b p q = rw (p, q)

-- ---- bits of one word
max-bit : (a b : ℕ) → a < 2 → b < 2 → eqb (max a b) 1 ≡ (eqb a 1 || eqb b 1)
max-bit zero zero p q = refl
max-bit zero (suc zero) p q = refl
max-bit zero (suc (suc b)) p q = absurd (omega arith)
max-bit (suc zero) zero p q = refl
max-bit (suc zero) (suc zero) p q = refl
max-bit (suc zero) (suc (suc b)) p q = absurd (omega arith)
max-bit (suc (suc a)) b p q = absurd (omega arith)

or_mod2 : (a b : ℕ) → bit_or a b % 2 ≡ max (a % 2) (b % 2)
or_mod2 a b =
    let h : a % 2 < 2 = omega arith in
    let k : b % 2 < 2 = omega arith in
    rw (or_step a b) (digits_mod (bit_or (a / 2) (b / 2)) {m = 2} (omega arith))

or_half : (a b : ℕ) → bit_or a b / 2 ≡ bit_or (a / 2) (b / 2)
or_half a b = or_shr a b 1

pub bit-or : (a b k : ℕ) → bit (bit_or a b) k ≡ (bit a k || bit b k)
unfolding bit
bit-or a b k =
    rw (or_shr a b k, or_mod2 (a / 2 ^ k) (b / 2 ^ k)) (max-bit (a / 2 ^ k % 2) (b / 2 ^ k % 2) (omega arith) (omega arith))

pub bit-zero : (k : ℕ) → bit 0 k ≡ false
unfolding bit
bit-zero k = rw (zero-div (2 ^ k))

max_assoc : (a b c : ℕ) → max (max a b) c ≡ max a (max b c)
max_assoc a b c = omega arith

-- the union of words is associative: by halves, for words below 2 ^ n
or_assoc-below : (n a b c : ℕ) → a < 2 ^ n → b < 2 ^ n → c < 2 ^ n → bit_or (bit_or a b) c ≡ bit_or a (bit_or b c)
or_assoc-below zero a b c p q r = rw (lt-one p, lt-one q, lt-one r)
or_assoc-below (suc n) a b c p q r =
    or_step (bit_or a b) c
    ∙ ap₂ (λ (x y : ℕ). x * 2 + y)
    (ap (λ (x : ℕ). bit_or x (c / 2)) (or_half a b)
    ∙ or_assoc-below n (a / 2) (b / 2) (c / 2) (omega arith) (omega arith) (omega arith)
    ∙ ap (bit_or (a / 2)) (sym (or_half b c)))
    (ap (λ (x : ℕ). max x (c % 2)) (or_mod2 a b) ∙ max_assoc (a % 2) (b % 2) (c % 2) ∙ ap (max (a % 2)) (sym (or_mod2 b c)))
    ∙ sym (or_step a (bit_or b c))

-- any number is below a power of 2
below_power : (n : ℕ) → n < 2 ^ n
below_power zero = omega arith
below_power (suc n) = let h = below_power n in omega arith

pub or_assoc : (a b c : ℕ) → bit_or (bit_or a b) c ≡ bit_or a (bit_or b c)
or_assoc a b c =
    let n = a + b + c in
    let h = below_power n in
    or_assoc-below n a b c (omega arith) (omega arith) (omega arith)

-- ---- union
pub either-word : (s t : List ℕ) (i : ℕ) → get_or (either s t) i 0 ≡ bit_or (get_or s i 0) (get_or t i 0)
unfolding either
either-word [] t i = sym (or_zero_l (get_or t i 0))
either-word (x ∷ s) [] i = sym (or_zero_r (get_or (x ∷ s) i 0))
either-word (x ∷ s) (y ∷ t) zero = refl
either-word (x ∷ s) (y ∷ t) (suc i) = either-word s t i

pub has_either : (s t : List ℕ) (l : ℕ) → has (either s t) l ≡ (has s l || has t l)
unfolding has
has_either s t l = rw (either-word s t (l / 64)) (bit-or (get_or s (l / 64) 0) (get_or t (l / 64) 0) (l % 64))

pub either_assoc : (s t u : List ℕ) → either (either s t) u ≡ either s (either t u)
unfolding either
either_assoc [] t u = refl
either_assoc (x ∷ s) [] u = refl
either_assoc (x ∷ s) (y ∷ t) [] = refl
either_assoc (x ∷ s) (y ∷ t) (z ∷ u) = ap₂ {C = List ℕ} (λ (a : ℕ) (r : List ℕ). a ∷ r) (or_assoc x y z) (either_assoc s t u)

pub either_comm : (s t : List ℕ) → either s t ≡ either t s
unfolding either
either_comm [] [] = refl
either_comm [] (y ∷ t) = refl
either_comm (x ∷ s) [] = refl
either_comm (x ∷ s) (y ∷ t) = ap₂ {C = List ℕ} (λ (a : ℕ) (r : List ℕ). a ∷ r) (or_comm x y) (either_comm s t)

pub either_self : (s : List ℕ) → either s s ≡ s
unfolding either
either_self [] = refl
either_self (x ∷ s) = ap₂ {C = List ℕ} (λ (a : ℕ) (r : List ℕ). a ∷ r) (or_self x) (either_self s)

pub either-none : (s : List ℕ) → either s (none (length s)) ≡ s
unfolding either none
either-none [] = refl
either-none (x ∷ s) = ap₂ {C = List ℕ} (λ (a : ℕ) (r : List ℕ). a ∷ r) (or_zero_r x) (either-none s)

pub either-length : (s t : List ℕ) (n : ℕ) → length s ≡ n → length t ≡ n → length (either s t) ≡ n
unfolding either
either-length [] t n e f = f
either-length (x ∷ s) [] n e f = e
either-length (x ∷ s) (y ∷ t) zero e f = absurd (omega arith)
either-length (x ∷ s) (y ∷ t) (suc n) e f = ap suc (either-length s t n (omega arith) (omega arith))

-- ---- inclusion is a partial order, and the union its least upper bound
pub inside-refl : (s : List ℕ) → inside s s ≡ true
unfolding inside
inside-refl [] = refl
inside-refl (x ∷ s) = and_true (eqb (bit_or x x) x) (inside s s) (eq-eqb (bit_or x x) x (or_self x)) (inside-refl s)

-- the test of one word, and of the rest
head_in : (x y : ℕ) (s t : List ℕ) → inside (x ∷ s) (y ∷ t) ≡ true → bit_or x y ≡ y
unfolding inside
head_in x y s t h = eqb-true (bit_or x y) y (and_left (eqb (bit_or x y) y) (inside s t) h)

tail_in : (x y : ℕ) (s t : List ℕ) → inside (x ∷ s) (y ∷ t) ≡ true → inside s t ≡ true
unfolding inside
tail_in x y s t h = and_right (eqb (bit_or x y) y) (inside s t) h

head_zero : (x : ℕ) (s : List ℕ) → inside (x ∷ s) [] ≡ true → x ≡ 0
unfolding inside
head_zero x s h = eqb-true x 0 (and_left (eqb x 0) (inside s []) h)

tail_zero : (x : ℕ) (s : List ℕ) → inside (x ∷ s) [] ≡ true → inside s [] ≡ true
unfolding inside
tail_zero x s h = and_right (eqb x 0) (inside s []) h

cons_in : (x y : ℕ) (s t : List ℕ) → bit_or x y ≡ y → inside s t ≡ true → inside (x ∷ s) (y ∷ t) ≡ true
unfolding inside
cons_in x y s t e h = and_true (eqb (bit_or x y) y) (inside s t) (eq-eqb (bit_or x y) y e) h

cons-zero : (x : ℕ) (s : List ℕ) → x ≡ 0 → inside s [] ≡ true → inside (x ∷ s) [] ≡ true
unfolding inside
cons-zero x s e h = and_true (eqb x 0) (inside s []) (eq-eqb x 0 e) h

pub inside_trans : (s t u : List ℕ) → inside s t ≡ true → inside t u ≡ true → inside s u ≡ true
inside_trans [] t u p q = unfold inside in refl
inside_trans (x ∷ s) [] [] p q = p
inside_trans (x ∷ s) [] (z ∷ u) p q =
    cons_in x z s u (ap (λ (a : ℕ). bit_or a z) (head_zero x s p) ∙ or_zero_l z)
    (inside_trans s [] u (tail_zero x s p) (unfold inside in refl))
inside_trans (x ∷ s) (y ∷ t) [] p q =
    let z : y ≡ 0 = head_zero y t q in
    cons-zero x s (sym (or_zero_r x) ∙ ap (bit_or x) (sym z) ∙ head_in x y s t p ∙ z) (inside_trans s t [] (tail_in x y s t p) (tail_zero y t q))
inside_trans (x ∷ s) (y ∷ t) (z ∷ u) p q =
    let e = head_in x y s t p in
    let f = head_in y z t u q in
    cons_in x z s u (ap (bit_or x) (sym f) ∙ sym (or_assoc x y z) ∙ ap (λ (a : ℕ). bit_or a z) e ∙ f)
    (inside_trans s t u (tail_in x y s t p) (tail_in y z t u q))

pub inside_antisym : (s t : List ℕ) → length s ≡ length t → inside s t ≡ true → inside t s ≡ true → s ≡ t
inside_antisym [] [] l p q = refl
inside_antisym [] (y ∷ t) l p q = absurd (omega arith)
inside_antisym (x ∷ s) [] l p q = absurd (omega arith)
inside_antisym (x ∷ s) (y ∷ t) l p q =
    ap₂ {C = List ℕ} (λ (a : ℕ) (r : List ℕ). a ∷ r) (sym (head_in y x t s q) ∙ or_comm y x ∙ head_in x y s t p)
    (inside_antisym s t (omega arith) (tail_in x y s t p) (tail_in y x t s q))

pub inside-left : (s t : List ℕ) → inside s (either s t) ≡ true
unfolding either
inside-left [] t = unfold inside in refl
inside-left (x ∷ s) [] = inside-refl (x ∷ s)
inside-left (x ∷ s) (y ∷ t) =
    cons_in x (bit_or x y) s (either s t) (sym (or_assoc x x y) ∙ ap (λ (a : ℕ). bit_or a y) (or_self x)) (inside-left s t)

pub inside-right : (s t : List ℕ) → inside t (either s t) ≡ true
inside-right s t = rw (either_comm s t) (inside-left t s)

pub inside_least : (s t u : List ℕ) → inside s u ≡ true → inside t u ≡ true → inside (either s t) u ≡ true
unfolding either
inside_least [] t u p q = q
inside_least (x ∷ s) [] u p q = p
inside_least (x ∷ s) (y ∷ t) [] p q =
    cons-zero (bit_or x y) (either s t) (ap₂ bit_or (head_zero x s p) (head_zero y t q) ∙ or_self 0)
    (inside_least s t [] (tail_zero x s p) (tail_zero y t q))
inside_least (x ∷ s) (y ∷ t) (z ∷ u) p q =
    cons_in (bit_or x y) z (either s t) u (or_assoc x y z ∙ ap (bit_or x) (head_in y z t u q) ∙ head_in x z s u p)
    (inside_least s t u (tail_in x z s u p) (tail_in y z t u q))

-- ---- inclusion and membership, in both directions
inside-word : (s t : List ℕ) → inside s t ≡ true → (i : ℕ) → bit_or (get_or s i 0) (get_or t i 0) ≡ get_or t i 0
inside-word [] t h i = or_zero_l (get_or t i 0)
inside-word (x ∷ s) [] h zero = or_zero_r x ∙ head_zero x s h
inside-word (x ∷ s) [] h (suc i) = inside-word s [] (tail_zero x s h) i
inside-word (x ∷ s) (y ∷ t) h zero = head_in x y s t h
inside-word (x ∷ s) (y ∷ t) h (suc i) = inside-word s t (tail_in x y s t h) i

pub inside-has : (s t : List ℕ) → inside s t ≡ true → (l : ℕ) → has s l ≡ true → has t l ≡ true
unfolding has
inside-has s t h l e =
    rw (← inside-word s t h (l / 64)) (rw (bit-or (get_or s (l / 64) 0) (get_or t (l / 64) 0) (l % 64)) (or_left _ _ e))

-- bit k of a half is bit k + 1
pub bit_half : (x k : ℕ) → bit (x / 2) k ≡ bit x (suc k)
unfolding bit
bit_half x k = ap (λ (y : ℕ). eqb (y % 2) 1) (shr-shr x 1 k ∙ ap (λ (j : ℕ). x / 2 ^ j) (one-add k))

low_bit : (x y : ℕ) → x < 2 → y < 2 → (eqb x 1 ≡ true → eqb y 1 ≡ true) → max x y ≡ y
low_bit zero y p q h = zero-max y
low_bit (suc zero) zero p q h = absurd (true≢false (sym (h refl)))
low_bit (suc zero) (suc zero) p q h = refl
low_bit (suc zero) (suc (suc y)) p q h = absurd (omega arith)
low_bit (suc (suc x)) y p q h = absurd (omega arith)

pub bit_0 : (x : ℕ) → bit x 0 ≡ eqb (x % 2) 1
unfolding bit
bit_0 x = rw (div-one x)

bits_or : (n x y : ℕ) → x < 2 ^ n → ((k : ℕ) → k < n → bit x k ≡ true → bit y k ≡ true) → bit_or x y ≡ y
bits_or zero x y p h = rw (lt-one p) (or_zero_l y)
bits_or (suc n) x y p h =
    or_step x y
    ∙ ap₂ (λ (a b : ℕ). a * 2 + b)
    (bits_or n (x / 2) (y / 2) (omega arith) (λ k lt e. bit_half y k ∙ h (suc k) (omega arith) (sym (bit_half x k) ∙ e)))
    (low_bit (x % 2) (y % 2) (omega arith) (omega arith) (λ e. sym (bit_0 y) ∙ h 0 (omega arith) (bit_0 x ∙ e)))
    ∙ div-add-mod' y 2

-- every entry is a word of 64 bits
unfoldable pub are_words : List ℕ → Bool
are_words [] = true
are_words (x ∷ s) = ltb x (2 ^ 64) && are_words s

-- the numbers of the first word, and those of the rest
pub has_head : (x l : ℕ) (s : List ℕ) → l < 64 → has (x ∷ s) l ≡ bit x l
unfolding has
has_head x l s h =
    let d : l / 64 ≡ 0 = omega arith in
    let r : l % 64 ≡ l = omega arith in
    rw (d, r)

pub has_tail : (x l : ℕ) (s : List ℕ) → has (x ∷ s) (64 + l) ≡ has s l
unfolding has
has_tail x l s =
    let d : (64 + l) / 64 ≡ suc (l / 64) = omega arith in
    let r : (64 + l) % 64 ≡ l % 64 = omega arith in
    rw (d, r)

pub has-nil : (l : ℕ) → has [] l ≡ false
unfolding has
has-nil l = bit-zero (l % 64)

-- ---- a word from one number on
-- its lowest bit is whether that number is in the set
pub has_low : (s : List ℕ) (l : ℕ) → has s l ≡ eqb (bits_from s l % 2) 1
unfolding has bit bits_from
has_low s l = refl

-- where it is 0, no number from that one to the end of the word is in the set
pub has_rest : (s : List ℕ) (l k : ℕ) → bits_from s l ≡ 0 → l ≤ k → k < l + (64 - l % 64) → has s k ≡ false
unfolding has bit bits_from
has_rest s l k z h i =
    let e : k / 64 ≡ l / 64 = omega arith in
    let j : k % 64 ≡ l % 64 + (k - l) = omega arith in
    rw (e, j, ← shr-shr (get_or s (l / 64) 0) (l % 64) (k - l), z, zero-div (2 ^ (k - l))) refl

-- every number of s is in t
abbrev Each : List ℕ → List ℕ → Type 0
Each s t = (l : ℕ) → has s l ≡ true → has t l ≡ true

each_tail : (x y : ℕ) (s t : List ℕ) → Each (x ∷ s) (y ∷ t) → Each s t
each_tail x y s t w l e = sym (has_tail y l t) ∙ w (64 + l) (has_tail x l s ∙ e)

each_nil : (x : ℕ) (s : List ℕ) → Each (x ∷ s) [] → Each s []
each_nil x s w l e = absurd (true≢false (sym (w (64 + l) (has_tail x l s ∙ e)) ∙ has-nil (64 + l)))

word-or : (x y : ℕ) (s t : List ℕ) → x < 2 ^ 64 → Each (x ∷ s) (y ∷ t) → bit_or x y ≡ y
word-or x y s t p w = bits_or 64 x y p (λ k lt e. sym (has_head y k t lt) ∙ w k (has_head x k s lt ∙ e))

word-zero : (x : ℕ) (s : List ℕ) → x < 2 ^ 64 → Each (x ∷ s) [] → x ≡ 0
word-zero x s p w =
    sym (or_zero_r x) ∙ bits_or 64 x 0 p (λ k lt e. absurd (true≢false (sym (w k (has_head x k s lt ∙ e)) ∙ has-nil k)))

pub has-inside : (s t : List ℕ) → are_words s ≡ true → ((l : ℕ) → has s l ≡ true → has t l ≡ true) → inside s t ≡ true
unfolding are_words
has-inside [] t a w = unfold inside in refl
has-inside (x ∷ s) [] a w =
    cons-zero x s (word-zero x s (ltb-true x (2 ^ 64) (and_left (ltb x (2 ^ 64)) (are_words s) a)) w)
    (has-inside s [] (and_right (ltb x (2 ^ 64)) (are_words s) a) (each_nil x s w))
has-inside (x ∷ s) (y ∷ t) a w =
    cons_in x y s t (word-or x y s t (ltb-true x (2 ^ 64) (and_left (ltb x (2 ^ 64)) (are_words s) a)) w)
    (has-inside s t (and_right (ltb x (2 ^ 64)) (are_words s) a) (each_tail x y s t w))

-- ---- the empty set, and the set of one number
replicate-word : (n i : ℕ) → get_or (replicate {A = ℕ} n 0) i 0 ≡ 0
replicate-word zero i = refl
replicate-word (suc n) zero = refl
replicate-word (suc n) (suc i) = replicate-word n i

pub has-none : (n l : ℕ) → has (none n) l ≡ false
unfolding has none
has-none n l = rw (replicate-word n (l / 64)) (bit-zero (l % 64))

pub has-only : (n l : ℕ) → l < n * 64 → has (only n l) l ≡ true
unfolding has only none bit
has-only n l h =
    let i : l / 64 < length (replicate {A = ℕ} n 0) = rw (length-replicate {A = ℕ} n 0) (omega arith) in
    rw (get_or-set_same (replicate n 0) (l / 64) (2 ^ (l % 64)) 0 i, div_self (pow_pos (l % 64)))

-- a number past the last word is in no set
pub has_out : (s : List ℕ) (l : ℕ) → length s * 64 ≤ l → has s l ≡ false
unfolding has
has_out s l h = rw (get_or-eq_default s 0 {n = l / 64} (omega arith)) (bit-zero (l % 64))

pub only_out : (n l : ℕ) → n * 64 ≤ l → only n l ≡ none n
unfolding only none
only_out n l h = set_out (replicate n 0) (l / 64) (2 ^ (l % 64)) (rw (length-replicate {A = ℕ} n 0) (omega arith))

-- ---- location sets
-- every location of s is in t
pub record Within (s t : LocationSet) : Type 0 where
  pub each : (l : ℕ) → member s l ≡ true → member t l ≡ true

pub member_union : (s t : LocationSet) (l : ℕ) → member (union s t) l ≡ (member s l || member t l)
unfolding member union
member_union s t l = has_either s.words t.words l

pub member-empty : (l : ℕ) → member empty l ≡ false
unfolding member empty
member-empty l = has-none 4 l

pub union_assoc : (s t u : LocationSet) → union (union s t) u ≡ union s (union t u)
unfolding union
union_assoc s t u = ap (λ (ws : List ℕ). record { words = ws }) (either_assoc s.words t.words u.words)

-- the empty set has four words, so that it adds nothing to a set of four words
pub union-empty : (s : LocationSet) → length s.words ≡ 4 → union s empty ≡ s
unfolding union empty
union-empty s h = ap (λ (ws : List ℕ). record { words = ws }) (rw h at (either-none s.words))

pub empty-union : (s : LocationSet) → length s.words ≡ 4 → union empty s ≡ s
unfolding union empty
empty-union s h = ap (λ (ws : List ℕ). record { words = ws }) (either_comm (none 4) s.words ∙ (rw h at (either-none s.words)))

pub member-single : (l : ℕ) → l < 256 → member (single l) l ≡ true
unfolding member single
member-single l h = has-only 4 l (omega arith)

pub member_low : (s : LocationSet) (l : ℕ) → member s l ≡ eqb (rest s l % 2) 1
unfolding member rest
member_low s l = has_low s.words l

pub member-rest : (s : LocationSet) (l k : ℕ) → rest s l ≡ 0 → l ≤ k → k < l + (64 - l % 64) → member s k ≡ false
unfolding member rest
member-rest s l k z h i = has_rest s.words l k z h i

pub within-refl : (s : LocationSet) → Within s s
within-refl s = record { each = λ l h. h }

pub within_trans : {s t u : LocationSet} → Within s t → Within t u → Within s u
within_trans p q = record { each = λ l h. q.each l (p.each l h) }

pub within-left : (s t : LocationSet) → Within s (union s t)
within-left s t = record { each = λ l h. rw (member_union s t l) (or_left (member s l) (member t l) h) }

pub within-right : (s t : LocationSet) → Within t (union s t)
within-right s t = record { each = λ l h. rw (member_union s t l) (or_right (member s l) (member t l) h) }

pub union-within_left : (s t : LocationSet) {d : LocationSet} → Within (union s t) d → Within s d
union-within_left s t p = within_trans (within-left s t) p

pub union-within_right : (s t : LocationSet) {d : LocationSet} → Within (union s t) d → Within t d
union-within_right s t p = within_trans (within-right s t) p

-- a set joined to both sides
pub within-union_mono : {s t : LocationSet} (u : LocationSet) → Within s t → Within (union s u) (union t u)
within-union_mono {s} {t} u w = record
    { each = λ l h. rw (member_union t u l) (or_mono (member s l) (member t l) (member u l) (w.each l) (rw (member_union s u l) at h)) }

pub subset-within : (s t : LocationSet) → subset s t ≡ true → Within s t
unfolding subset member
subset-within s t h = record { each = inside-has s.words t.words h }

pub within-subset : (s t : LocationSet) → are_words s.words ≡ true → Within s t → subset s t ≡ true
unfolding subset member
within-subset s t a w = has-inside s.words t.words a w.each

-- ---- a set that has joined another, and the empty set
inside-none : (n : ℕ) (t : List ℕ) → inside (none n) t ≡ true
unfolding inside none
inside-none zero t = refl
inside-none (suc n) [] = inside-none n []
inside-none (suc n) (y ∷ t) = and_true (eqb (bit_or 0 y) y) (inside (replicate n 0) t) (eq-eqb (bit_or 0 y) y (or_zero_l y)) (inside-none n t)

inside_self : (s : List ℕ) → inside s s ≡ true
unfolding inside
inside_self [] = refl
inside_self (x ∷ s) = and_true (eqb (bit_or x x) x) (inside s s) (eq-eqb (bit_or x x) x (or_self x)) (inside_self s)

joined_word : (x y : ℕ) → bit_or x (bit_or y x) ≡ bit_or y x
joined_word x y = or_comm x (bit_or y x) ∙ or_assoc y x x ∙ ap (bit_or y) (or_self x)

inside-joined : (s t : List ℕ) → inside s (either t s) ≡ true
unfolding inside either
inside-joined [] t = refl
inside-joined (x ∷ s) [] = inside_self (x ∷ s)
inside-joined (x ∷ s) (y ∷ t) =
    and_true (eqb (bit_or x (bit_or y x)) (bit_or y x)) (inside s (either t s)) (eq-eqb (bit_or x (bit_or y x)) (bit_or y x) (joined_word x y)) (inside-joined s t)

pub subset-empty : (t : LocationSet) → subset empty t ≡ true
unfolding subset empty
subset-empty t = inside-none 4 t.words

pub subset-joined : (s t : LocationSet) → subset s (union t s) ≡ true
unfolding subset union
subset-joined s t = inside-joined s.words t.words

-- once is enough
pub union_again : (t s : LocationSet) → union (union t s) s ≡ union t s
unfolding union
union_again t s =
    ap (λ (ws : List ℕ). record { words = ws }) (either_assoc t.words s.words s.words ∙ ap (either t.words) (either_self s.words))
