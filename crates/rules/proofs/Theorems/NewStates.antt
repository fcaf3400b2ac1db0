-- The words of a new state: as many as the job's, each of 64 bits, those of the kept locations its own and the others never 0. Their bytes
-- read back as them.
-- Assumes nothing.
use Rattle.std.specs.Prelude.{◌≡◌, refl, Bool, true, false, cond, List, [], ◌∷◌, ℕ, zero, suc, ◌+◌, ◌*◌, ◌/◌, ◌^◌, ◌<◌, ◌≤◌, length, get_or}
use Rattle.std.proofs.Common.{sym, ap, ◌∙◌, add-zero, add-suc, suc-add, arith}
use Rattle.std.specs.Int.Bits.{bit_and, bit_xor, xor_add_and}
use Rattle.std.proofs.lemmas.Nat.{xor_lt, and_le_l, and_le_r}
use Rattle.location.specs.declared.LocationSet.{LocationSet}
use Rattle.location.specs.Sets.{member}
use Rattle.rules.specs.Rules.Operators.{apply2, xor, shl, shr}
use Rattle.rules.specs.Rules.JobFile.{words_at}
use Rattle.rules.specs.Rules.Encoding.{word_bytes, Bytes}
use Rattle.rules.specs.Rules.TestLoads.{next_word, new_words}
use Rattle.rules.proofs.Theorems.JobLaws.{length-words_at}
use Rattle.rules.proofs.Theorems.EncodedWords.{Words, no_words, more-words, rest-words, file-words, read-words}

-- what holds of two lists of words holds of the one that is chosen
either_way : (P : List ℕ → Type 0) (b : Bool) {xs ys : List ℕ} → P xs → P ys → P (cond b xs ys)
either_way P true p q = p
either_way P false p q = q

-- ---- how many there are
-- a new state has as many words as the job's
pub length-new_words : (kept : LocationSet) (l x : ℕ) (vs : List ℕ) → length (new_words kept l x vs) ≡ length vs
unfolding new_words
length-new_words kept l x [] = refl
length-new_words kept l x (v ∷ vs) =
    either_way (λ (ws : List ℕ). length ws ≡ suc (length vs)) (member kept l) (ap suc (length-new_words kept (suc l) x vs))
    (ap suc (length-new_words kept (suc l) (next_word x) vs))

-- ---- the words that are made
-- exclusive-or keeps to 64 bits
xor-word : (a b : ℕ) → a < 2 ^ 64 → b < 2 ^ 64 → apply2 xor a b < 2 ^ 64
xor-word a b = xor_lt 64 a b

pub next-below : (x : ℕ) → x < 2 ^ 64 → next_word x < 2 ^ 64
unfolding next_word
next-below x h =
    let y = apply2 xor x (apply2 shl x 13) in
    let z = apply2 xor y (apply2 shr y 7) in
    let hy : y < 2 ^ 64 = xor-word x (apply2 shl x 13) h (omega arith) in
    let hz : z < 2 ^ 64 = xor-word y (apply2 shr y 7) hy (omega arith) in
    xor-word z (apply2 shl z 17) hz (omega arith)

pub new-words : (kept : LocationSet) (l x : ℕ) (vs : List ℕ) → x < 2 ^ 64 → Words vs → Words (new_words kept l x vs)
unfolding new_words
new-words kept l x [] h w = no_words
new-words kept l x (v ∷ vs) h w =
    let n = next-below x h in
    either_way Words (member kept l)
    (more-words v (new_words kept (suc l) x vs) (w.each 0) (new-words kept (suc l) x vs h (rest-words v vs w)))
    (more-words (next_word x) (new_words kept (suc l) (next_word x) vs) n (new-words kept (suc l) (next_word x) vs n (rest-words v vs w)))

-- ---- a word that was made is never 0, so it can be the next seed
-- what differs in no digit is the same
xor-zero : (a b : ℕ) → apply2 xor a b ≡ 0 → a ≡ b
xor-zero a b h =
    let s : bit_xor a b + bit_and a b * 2 ≡ a + b = xor_add_and a b in
    let l : bit_and a b ≤ a = and_le_l a b in
    let r : bit_and a b ≤ b = and_le_r a b in
    no_difference (bit_xor a b) (bit_and a b) a b s l r h
  where
    no_difference : (x c a b : ℕ) → x + c * 2 ≡ a + b → c ≤ a → c ≤ b → x ≡ 0 → a ≡ b
    no_difference x c a b s l r h = omega arith

-- a word that is a multiple of 2^64 is 0
multiple_zero : (x m n : ℕ) → x < 2 ^ 64 → x + 2 ^ 64 * m ≡ 2 ^ 64 * n → x ≡ 0
multiple_zero x m n h e = omega arith

-- only 0 is itself shifted: to the left by 13, x times 2^13 − 1 is a multiple of 2^64, hence x times 2^65 − 1, and so x
left_13_same : (x : ℕ) → x < 2 ^ 64 → x ≡ apply2 shl x 13 → x ≡ 0
left_13_same x h e =
    let q = x * 2 ^ 13 / 2 ^ 64 in
    let d : x * 2 ^ 13 ≡ q * 2 ^ 64 + x = omega arith in
    let m : x + 2 ^ 64 * (q * (2 ^ 52 + 2 ^ 39 + 2 ^ 26 + 2 ^ 13 + 1)) ≡ 2 ^ 64 * (2 * x) = omega arith in
    multiple_zero x (q * (2 ^ 52 + 2 ^ 39 + 2 ^ 26 + 2 ^ 13 + 1)) (2 * x) h m

right_7_same : (x : ℕ) → x ≡ apply2 shr x 7 → x ≡ 0
right_7_same x e = omega arith

-- by 17 likewise: x times 2^17 − 1, hence x times 2^68 − 1
left_17_same : (x : ℕ) → x < 2 ^ 64 → x ≡ apply2 shl x 17 → x ≡ 0
left_17_same x h e =
    let q = x * 2 ^ 17 / 2 ^ 64 in
    let d : x * 2 ^ 17 ≡ q * 2 ^ 64 + x = omega arith in
    let m : x + 2 ^ 64 * (q * (2 ^ 51 + 2 ^ 34 + 2 ^ 17 + 1)) ≡ 2 ^ 64 * (16 * x) = omega arith in
    multiple_zero x (q * (2 ^ 51 + 2 ^ 34 + 2 ^ 17 + 1)) (16 * x) h m

only_zero : (x : ℕ) → x < 2 ^ 64 → next_word x ≡ 0 → x ≡ 0
unfolding next_word
only_zero x h e =
    let y = apply2 xor x (apply2 shl x 13) in
    let z = apply2 xor y (apply2 shr y 7) in
    let hy : y < 2 ^ 64 = xor-word x (apply2 shl x 13) h (omega arith) in
    let hz : z < 2 ^ 64 = xor-word y (apply2 shr y 7) hy (omega arith) in
    let z0 : z ≡ 0 = left_17_same z hz (xor-zero z (apply2 shl z 17) e) in
    let y0 : y ≡ 0 = right_7_same y (xor-zero y (apply2 shr y 7) z0) in
    left_13_same x h (xor-zero x (apply2 shl x 13) y0)

pub next_nonzero : (x : ℕ) → x < 2 ^ 64 → 0 < x → 0 < next_word x
next_nonzero x h p = positive (next_word x) (λ e. let z = only_zero x h e in omega arith)
  where
    positive : (y : ℕ) → (y ≡ 0 → ⊥) → 0 < y
    positive zero n = absurd (n refl)
    positive (suc y) n = omega arith

-- so too every word of a new state that is not kept
pub made_nonzero : (kept : LocationSet) (l x : ℕ) (vs : List ℕ) (j : ℕ) → x < 2 ^ 64 → 0 < x → j < length vs → member kept (l + j) ≡ false
    → 0 < get_or (new_words kept l x vs) j 0
unfolding new_words
made_nonzero kept l x [] j h p i m = absurd (omega arith)
made_nonzero kept l x (v ∷ vs) zero h p i m = rw (rw (add-zero l) at m) (next_nonzero x h p)
made_nonzero kept l x (v ∷ vs) (suc j) h p i m =
    let later : member kept (suc l + j) ≡ false = rw (suc-add l j, ← add-suc l j) m in
    either_way (λ (ws : List ℕ). 0 < get_or ws (suc j) 0) (member kept l) (made_nonzero kept (suc l) x vs j h p (omega arith) later)
    (made_nonzero kept (suc l) (next_word x) vs j (next-below x h) (next_nonzero x h p) (omega arith) later)

-- ---- the words that are kept
pub new-kept : (kept : LocationSet) (l x : ℕ) (vs : List ℕ) (j : ℕ) → member kept (l + j) ≡ true → get_or (new_words kept l x vs) j 0 ≡ get_or vs j 0
unfolding new_words
new-kept kept l x [] j h = refl
new-kept kept l x (v ∷ vs) zero h = rw (rw (add-zero l) at h)
new-kept kept l x (v ∷ vs) (suc j) h =
    let later : member kept (suc l + j) ≡ true = rw (suc-add l j, ← add-suc l j) h in
    either_way (λ (ws : List ℕ). get_or ws (suc j) 0 ≡ get_or vs j 0) (member kept l) (new-kept kept (suc l) x vs j later)
    (new-kept kept (suc l) (next_word x) vs j later)

-- ---- the bytes of a new state of n words of a file
pub read-new : (kept : LocationSet) (seed n : ℕ) (f : List ℕ) (at : ℕ) → Bytes f → seed < 2 ^ 64
    → words_at n (word_bytes (new_words kept 0 seed (words_at n f at))) 0 ≡ new_words kept 0 seed (words_at n f at)
read-new kept seed n f at all lt =
    let vs = new_words kept 0 seed (words_at n f at) in
    let size : length vs ≡ n = length-new_words kept 0 seed (words_at n f at) ∙ length-words_at n f at in
    ap (λ (m : ℕ). words_at m (word_bytes vs) 0) (sym size) ∙ read-words vs (new-words kept 0 seed (words_at n f at) lt (file-words n f at all))
