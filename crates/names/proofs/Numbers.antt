-- Digits read one by one, and what the bytes of a number are.
-- Assumes nothing.
use mathlib.Core.Path.{◌≡◌, refl, sym, ap, ◌∙◌}
use mathlib.Core.Bool.{Bool, true, false, not, ◌&&◌, cond}
use mathlib.Core.List.{List, [], ◌∷◌}
use mathlib.Core.Option.{none, some}
use Prim.{⊥}
use Prim.Native.Nat.{ℕ, ◌+◌, ◌-◌, ◌*◌, ◌^◌, ◌<◌, ◌≤◌}
use native.Mathlib.Nat.{le_refl}
use native.Mathlib.Numerals.{add-one}
use native.Mathlib.Omega.{arith}
use borrow.Author.Tests.{le-leb, lt-ltb, le-ltb, ltb-true, ltb-false, eq-eqb, ne_eqb, eqb-true, eqb-false}
use lib.Dec.{eqb, ltb}
use lib.ListN.{length, get_or, take, drop, drop_of_length-le}
use lib.Seq.{drop-cons}
use Rattle.location.specs.Sets.{registers}
use Rattle.std.proofs.Common.{Option, Some, None}
use Rattle.std.proofs.lemmas.List.{take_all}
use Rattle.rules.specs.Rules.Parts.{is_digit}
use Rattle.rules.specs.Rules.TextReading.{digits_only, no_needless_zero, value_after, number_below, constant_named, register_named}
use Rattle.names.specs.Meaning.{number_of, digits_number, register_byte}

-- the value never falls as digits follow
value_grows : (x : ℕ) (ds : List ℕ) → x ≤ value_after x ds
unfolding value_after
value_grows x [] = le_refl x
value_grows x (d ∷ ds) = let h = value_grows (10 * x + (d - 48)) ds in omega (arith, h)

-- ---- the bytes from i on, after digits with value x
module _ (w : List ℕ) (x i : ℕ) where
  -- `digits_number` of a byte and the bytes after it
  byte-first : i < length w → digits_number x (drop i w) ≡ digits_number x (get_or w i 0 ∷ drop (i + 1) w)
  byte-first h = rw (add-one, drop-cons w i 0 h)

  pub number-other : i < length w → is_digit (get_or w i 0) ≡ false → None ≡ digits_number x (drop i w)
  unfolding digits_number digits_only
  number-other h e = sym (byte-first h ∙ rw e)

  pub number_large : i < length w → 2 ^ 64 ≤ 10 * x + (get_or w i 0 - 48) → None ≡ digits_number x (drop i w)
  unfolding digits_number value_after
  number_large h l =
      let v = value_after x (get_or w i 0 ∷ drop (i + 1) w) in
      let g = value_grows (10 * x + (get_or w i 0 - 48)) (drop (i + 1) w) in
      sym (byte-first h ∙ none_large (digits_only (get_or w i 0 ∷ drop (i + 1) w)) v (le-ltb v (2 ^ 64) (omega (arith, g))))
    where
      none_large : (b : Bool) (v : ℕ) → ltb v (2 ^ 64) ≡ false → cond (b && ltb v (2 ^ 64)) (Some v) None ≡ None
      none_large true v e = rw e
      none_large false v e = refl

  pub number-next : i < length w → 48 ≤ get_or w i 0 → get_or w i 0 ≤ 57
      → digits_number (10 * x + (get_or w i 0 - 48)) (drop (i + 1) w) ≡ digits_number x (drop i w)
  unfolding digits_number digits_only value_after
  number-next h l u = sym (byte-first h ∙ rw (le-leb 48 (get_or w i 0) l, le-leb (get_or w i 0) 57 u))

  pub number_done : length w ≤ i → x < 2 ^ 64 → Some x ≡ digits_number x (drop i w)
  unfolding digits_number digits_only value_after
  number_done h l = rw (drop_of_length-le w {i = i} h, lt-ltb x (2 ^ 64) l)

-- ---- a constant: at least one digit, and no zero before others
well_led : (w : List ℕ) → no_needless_zero w ≡ true → digits_number 0 w ≡ number_of (constant_named w)
unfolding digits_number constant_named number_below
well_led w e = rw e (go (digits_only w && ltb (value_after 0 w) (2 ^ 64)))
  where
    go : (b : Bool) → cond b (Some (value_after 0 w)) None ≡ number_of (cond b (some (value_after 0 w)) none)
    go true = refl
    go false = refl

not_well_led : (w : List ℕ) → no_needless_zero w ≡ false → None ≡ number_of (constant_named w)
unfolding constant_named number_below
not_well_led w e = rw e (go (digits_only w))
  where
    go : (b : Bool) → None ≡ number_of (cond (b && false) (some (value_after 0 w)) none)
    go true = refl
    go false = refl

pub constant-empty : (w : List ℕ) → length w < 1 → None ≡ number_of (constant_named w)
constant-empty [] e = not_well_led [] refl
constant-empty (b ∷ w) e = absurd (omega arith)

pub constant-one : (w : List ℕ) → 1 ≤ length w → length w < 2 → digits_number 0 w ≡ number_of (constant_named w)
constant-one [] h e = absurd (omega arith)
constant-one (b ∷ []) h e = well_led (b ∷ []) refl
constant-one (b ∷ d ∷ w) h e = absurd (omega arith)

pub constant-zero_led : (w : List ℕ) → 2 ≤ length w → get_or w 0 0 ≡ 48 → None ≡ number_of (constant_named w)
constant-zero_led [] h e = absurd (omega arith)
constant-zero_led (b ∷ []) h e = absurd (omega arith)
constant-zero_led (b ∷ d ∷ w) h e = not_well_led (b ∷ d ∷ w) (ap not (eq-eqb b 48 e))

pub constant-first : (w : List ℕ) → 1 ≤ length w → (get_or w 0 0 ≡ 48 → ⊥) → digits_number 0 w ≡ number_of (constant_named w)
constant-first [] h e = absurd (omega arith)
constant-first (b ∷ []) h e = well_led (b ∷ []) refl
constant-first (b ∷ d ∷ w) h e = well_led (b ∷ d ∷ w) (ap not (ne_eqb b 48 e))

-- ---- the bytes after the first
abbrev pub others : List ℕ → List ℕ
others w = take (length w - 1) (drop 1 w)

others-length : (w : List ℕ) → length (others w) ≡ length w - 1
others-length [] = refl
others-length (b ∷ w) = ap length (take_all (length (b ∷ w) - 1) w (omega arith)) ∙ (let e : length w ≡ length (b ∷ w) - 1 = omega arith in e)

pub some_others : (w : List ℕ) → false ≡ eqb (length (others w)) 0 → 2 ≤ length w
some_others w e = let n = eqb-false (length (others w)) 0 (sym e) in omega (arith, others-length w, n)

pub no_others : (w : List ℕ) → true ≡ eqb (length (others w)) 0 → length w < 2
no_others w e = omega (arith, others-length w, eqb-true (length (others w)) 0 (sym e))

-- ---- a register: the letter r and then a constant below 16
-- the register with a number, if it is one
abbrev register_of : Option ℕ → Option ℕ
register_of (Some x) = cond (ltb x registers) (Some x) None
register_of None = None

narrowed : (w : List ℕ) → register_of (number_of (constant_named w)) ≡ register_byte (number_below registers w)
unfolding constant_named number_below
narrowed w = go (digits_only w) (no_needless_zero w) (value_after 0 w) (ltb (value_after 0 w) (2 ^ 64)) (ltb (value_after 0 w) registers) refl refl
  where
    go : (d l : Bool) (v : ℕ) (m s : Bool) → ltb v (2 ^ 64) ≡ m → ltb v registers ≡ s
        → register_of (number_of (cond (d && (l && m)) (some v) none)) ≡ register_byte (cond (d && (l && s)) (some v) none)
    go false l v m s e f = refl
    go true false v m s e f = refl
    go true true v true true e f = rw f
    go true true v true false e f = rw f
    go true true v false true e f = absurd (omega (arith, ltb-false v (2 ^ 64) e, ltb-true v registers f))
    go true true v false false e f = refl

pub register-other : (w : List ℕ) → ((number : List ℕ) → w ≡ 114 ∷ number → ⊥) → None ≡ register_byte (register_named w)
unfolding register_named
register-other [] other = refl
register-other (b ∷ w) other = rw (ne_eqb b 114 (λ e. other w (ap (λ (x : ℕ). x ∷ w) e)))

module _ {w number : List ℕ} (split : w ≡ 114 ∷ number) where
  numbered : register_of (number_of (constant_named number)) ≡ register_byte (register_named w)
  unfolding register_named
  numbered = rw split (narrowed number)

  pub register-found : {x : ℕ} → Some x ≡ number_of (constant_named number) → x < 16 → Some x ≡ register_byte (register_named w)
  register-found {x} is l = sym (rw (lt-ltb x registers l)) ∙ ap register_of is ∙ numbered

  pub register-above : {x : ℕ} → Some x ≡ number_of (constant_named number) → 16 ≤ x → None ≡ register_byte (register_named w)
  register-above {x} is l = sym (rw (le-ltb x registers l)) ∙ ap register_of is ∙ numbered

  pub register_missing : None ≡ number_of (constant_named number) → None ≡ register_byte (register_named w)
  register_missing is = ap register_of is ∙ numbered
