-- The digits that are printed of a number are a number that reads back as it; so is a register's name, and neither is any other name.
-- Assumes nothing.
use Rattle.std.specs.Prelude.{◌≡◌, refl, Bool, true, false, not, cond, List, [], ◌∷◌, ℕ, zero, suc, ◌+◌, ◌-◌, ◌*◌, ◌^◌, ◌<◌, ◌≤◌, ◌/◌, ◌%◌, eqb, leb, ltb}
use Rattle.std.proofs.Common.{ap, ◌∙◌, pow-suc, arith, leb-true, ltb-true, ltb-false, lt-ltb, le-leb, ne_eqb}
use Rattle.std.proofs.Math.Option.{none, some}
use Rattle.std.proofs.lemmas.Bool.{lt-leb}
use Rattle.location.specs.Sets.{registers}
use Rattle.location.specs.SetLaws.{and_left, and_right, and_true}
use Rattle.rules.specs.Rules.Expressions.{reg, const}
use Rattle.rules.specs.Rules.Answers.{text}
use Rattle.rules.specs.Rules.JobFile.{unary}
use Rattle.rules.specs.Rules.Pairs.{same_words}
use Rattle.rules.specs.Rules.Listing.{digits, decimal}
use Rattle.rules.specs.Rules.Parts.{is_digit, in_name}
use Rattle.rules.specs.Rules.TextReading.{called, sign_named, digits_only, no_needless_zero, value_after, number_below, constant_named, register_named}
use Rattle.rules.specs.Rules.TextReading.{simple_named}
use Rattle.rules.specs.Rules.TextPrinting.{register_text}
use Rattle.rules.proofs.Theorems.TextParts.{Named, nil, more, Word, word}

-- ---- digits
digit_byte : (n : ℕ) → n < 10 → is_digit (48 + n) ≡ true
digit_byte n h =
    let low : leb 48 (48 + n) ≡ true = le-leb 48 (48 + n) (omega arith) in
    let high : leb (48 + n) 57 ≡ true = le-leb (48 + n) 57 (omega arith) in
    and_true (leb 48 (48 + n)) (leb (48 + n) 57) low high

last_digit : (n : ℕ) → is_digit (48 + n % 10) ≡ true
last_digit n = let h : n % 10 < 10 = omega arith in digit_byte (n % 10) h

digits-only : (k n : ℕ) (w : List ℕ) → digits_only w ≡ true → digits_only (digits k n w) ≡ true
unfolding digits digits_only
digits-only zero n w h = h
digits-only (suc k) n w h = go (ltb n 10) refl (λ x. digits-only k (n / 10) ((48 + n % 10) ∷ w) x)
  where
    go : (b : Bool) → ltb n 10 ≡ b
        → (digits_only ((48 + n % 10) ∷ w) ≡ true → digits_only (digits k (n / 10) ((48 + n % 10) ∷ w)) ≡ true)
        → digits_only (cond b ((48 + n) ∷ w) (digits k (n / 10) ((48 + n % 10) ∷ w))) ≡ true
    go true e f = and_true (is_digit (48 + n)) (digits_only w) (digit_byte n (ltb-true n 10 e)) h
    go false e f = f (and_true (is_digit (48 + n % 10)) (digits_only w) (last_digit n) h)

pub decimal-only : (n : ℕ) → digits_only (decimal n) ≡ true
unfolding decimal digits_only
decimal-only n = digits-only 20 n [] refl

-- the value of a number's digits, before other digits
digits_value : (k n : ℕ) (w : List ℕ) → n < 10 ^ k → value_after 0 (digits k n w) ≡ value_after n w
unfolding digits value_after
digits_value zero n w h = let z : n ≡ 0 = omega (arith, (let q : n < 1 = h in q)) in rw z
digits_value (suc k) n w h = go (ltb n 10) refl (λ x. digits_value k (n / 10) ((48 + n % 10) ∷ w) x)
  where
    go : (b : Bool) → ltb n 10 ≡ b
        → (n / 10 < 10 ^ k → value_after 0 (digits k (n / 10) ((48 + n % 10) ∷ w)) ≡ value_after (n / 10) ((48 + n % 10) ∷ w))
        → value_after 0 (cond b ((48 + n) ∷ w) (digits k (n / 10) ((48 + n % 10) ∷ w))) ≡ value_after n w
    go true e f = let z : 10 * 0 + (48 + n - 48) ≡ n = omega arith in ap (λ (x : ℕ). value_after x w) z
    go false e f =
        let p : 10 ^ suc k ≡ 10 ^ k * 10 = pow-suc 10 k in
        let z : 10 * (n / 10) + (48 + n % 10 - 48) ≡ n = omega arith in
        f (omega (arith, p)) ∙ ap (λ (x : ℕ). value_after x w) z

-- "no number has a needless leading zero": a number that is not 0 begins with no zero
led_byte : (n : ℕ) (w : List ℕ) → 1 ≤ n → no_needless_zero ((48 + n) ∷ w) ≡ true
led_byte n [] h = refl
led_byte n (c ∷ w) h = ap not (ne_eqb (48 + n) 48 (λ e. absurd (omega arith)))

digits_led : (k n : ℕ) (w : List ℕ) → 1 ≤ n → n < 10 ^ k → no_needless_zero (digits k n w) ≡ true
unfolding digits
digits_led zero n w s h = absurd (omega (arith, (let q : n < 1 = h in q)))
digits_led (suc k) n w s h = go (ltb n 10) refl (λ x y. digits_led k (n / 10) ((48 + n % 10) ∷ w) x y)
  where
    go : (b : Bool) → ltb n 10 ≡ b
        → (1 ≤ n / 10 → n / 10 < 10 ^ k → no_needless_zero (digits k (n / 10) ((48 + n % 10) ∷ w)) ≡ true)
        → no_needless_zero (cond b ((48 + n) ∷ w) (digits k (n / 10) ((48 + n % 10) ∷ w))) ≡ true
    go true e f = led_byte n w s
    go false e f =
        let p : 10 ^ suc k ≡ 10 ^ k * 10 = pow-suc 10 k in
        let g = ltb-false n 10 e in
        f (omega arith) (omega (arith, p))

-- all numbers that have at most 20 digits
decimal_led : (n : ℕ) → n < 10 ^ 20 → no_needless_zero (decimal n) ≡ true
unfolding decimal digits
decimal_led n h = go (ltb n 10) refl
  where
    go : (b : Bool) → ltb n 10 ≡ b → no_needless_zero (cond b ((48 + n) ∷ []) (digits 19 (n / 10) ((48 + n % 10) ∷ []))) ≡ true
    go true e = refl
    go false e = let g = ltb-false n 10 e in digits_led 19 (n / 10) ((48 + n % 10) ∷ []) (omega arith) (omega arith)

decimal-value : (n : ℕ) → n < 10 ^ 20 → value_after 0 (decimal n) ≡ n
unfolding decimal value_after
decimal-value n h = digits_value 20 n [] h

-- ---- a number that is printed reads back
decimal-below : (limit n : ℕ) → n < limit → n < 10 ^ 20 → number_below limit (decimal n) ≡ some n
unfolding number_below
decimal-below limit n l h =
    let v = decimal-value n h in
    let t : ltb (value_after 0 (decimal n)) limit ≡ true = ap (λ (x : ℕ). ltb x limit) v ∙ lt-ltb n limit l in
    rw (decimal-only n, decimal_led n h, t, v)

pub constant-named : (c : ℕ) → c < 2 ^ 64 → constant_named (decimal c) ≡ some c
unfolding constant_named
constant-named c h = decimal-below (2 ^ 64) c h (omega arith)

pub register-named : (r : ℕ) → r < registers → register_named (register_text r) ≡ some r
unfolding register_named register_text
register-named r h = decimal-below registers r h (omega arith)

-- ---- a number is no register, and neither is a sign
not_byte : (b c : ℕ) → is_digit b ≡ true → 57 < c → eqb b c ≡ false
not_byte b c h l = let k = leb-true b 57 (and_right (leb 48 b) (leb b 57) h) in ne_eqb b c (λ e. absurd (omega arith))

digits_no_register : (w : List ℕ) → digits_only w ≡ true → register_named w ≡ none
unfolding register_named digits_only
digits_no_register [] h = refl
digits_no_register (b ∷ w) h =
    ap (λ (t : Bool). cond t (number_below registers w) none) (not_byte b 114 (and_left (is_digit b) (digits_only w) h) (omega arith))

digits_no_sign : (w : List ℕ) → digits_only w ≡ true → sign_named w ≡ none
unfolding sign_named called unary text same_words digits_only
digits_no_sign [] h = refl
digits_no_sign (b ∷ w) h = rw (not_byte b 110 (and_left (is_digit b) (digits_only w) h) (omega arith))

pub constant_no_sign : (c : ℕ) → sign_named (decimal c) ≡ none
constant_no_sign c = digits_no_sign (decimal c) (decimal-only c)

pub register_no_sign : (r : ℕ) → sign_named (register_text r) ≡ none
unfolding sign_named called unary text same_words register_text
register_no_sign r = refl

pub constant_simple : (c : ℕ) → c < 2 ^ 64 → simple_named (decimal c) ≡ some (const c ∷ [])
unfolding simple_named
constant_simple c h = rw (digits_no_register (decimal c) (decimal-only c), constant-named c h, simple_named)

pub register_simple : (r : ℕ) → r < registers → simple_named (register_text r) ≡ some (reg r ∷ [])
unfolding simple_named
register_simple r h = rw (register-named r h, simple_named)

-- ---- both are words
digit_named : (b : ℕ) → is_digit b ≡ true → in_name b ≡ true
unfolding in_name
digit_named b h = let k = leb-true b 57 (and_right (leb 48 b) (leb b 57) h) in let f : leb 97 b ≡ false = lt-leb 97 b (omega arith) in rw (f, h)

digits-named : (w : List ℕ) → digits_only w ≡ true → Named w
unfolding digits_only
digits-named [] h = nil
digits-named (b ∷ w) h = more (digit_named b (and_left (is_digit b) (digits_only w) h)) (digits-named w (and_right (is_digit b) (digits_only w) h))

digits-word : (w : List ℕ) → digits_only w ≡ true → no_needless_zero w ≡ true → Word w
digits-word [] h l = absurd (let z : ◌≡◌ {A = ℕ} 0 1 = cc in omega arith)
digits-word (b ∷ w) h l = word b w (digits-named (b ∷ w) h)

pub constant-word : (c : ℕ) → c < 2 ^ 64 → Word (decimal c)
constant-word c h = digits-word (decimal c) (decimal-only c) (decimal_led c (omega arith))

pub register-word : (r : ℕ) → Word (register_text r)
unfolding register_text in_name
register-word r = word 114 (decimal r) (more refl (digits-named (decimal r) (decimal-only r)))
