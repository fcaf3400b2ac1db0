-- Words of 64 bits and their bytes: what is read of bytes is words, and the bytes of words read back as them.
-- Assumes nothing.
use Rattle.std.specs.Prelude.{◌≡◌, refl, List, [], ◌∷◌, ℕ, zero, suc, ◌+◌, ◌*◌, ◌^◌, ◌<◌, length, get_or}
use Rattle.std.proofs.Common.{ap₂, arith, length-append}
use Rattle.rules.specs.Rules.JobFile.{little, words_at}
use Rattle.rules.specs.Rules.Encoding.{bytes_of, word_bytes, Bytes}
use Rattle.rules.proofs.Theorems.EncodedFields.{length-bytes_of, little-below}
use Rattle.rules.proofs.Theorems.Decoded.{Stands, little-given}

-- 8 bytes a word
pub length-word_bytes : (vs : List ℕ) → length (word_bytes vs) ≡ 8 * length vs
unfolding word_bytes
length-word_bytes [] = refl
length-word_bytes (v ∷ vs) =
    let h = length-word_bytes vs in
    let a = length-append (bytes_of 8 v) (word_bytes vs) in
    let b = length-bytes_of 8 v in
    omega arith

-- ---- words of 64 bits
-- every number of a list is a word of 64 bits
pub record Words (vs : List ℕ) : Type 0 where
  pub each : (i : ℕ) → get_or vs i 0 < 2 ^ 64

pub no_words : Words []
no_words = record { each = λ i. omega arith }

-- one word more
pub more-words : (v : ℕ) (vs : List ℕ) → v < 2 ^ 64 → Words vs → Words (v ∷ vs)
more-words v vs h w = record { each = go }
  where
    go : (i : ℕ) → get_or (v ∷ vs) i 0 < 2 ^ 64
    go zero = h
    go (suc i) = w.each i

-- the words after the first
pub rest-words : (v : ℕ) (vs : List ℕ) → Words (v ∷ vs) → Words vs
rest-words v vs w = record { each = λ i. w.each (suc i) }

-- what is read of bytes is words
pub file-words : (n : ℕ) (f : List ℕ) (at : ℕ) → Bytes f → Words (words_at n f at)
unfolding words_at
file-words zero f at b = no_words
file-words (suc n) f at b = more-words (little f at 8) (words_at n f (at + 8)) (little-below f b 8 at) (file-words n f (at + 8) b)

-- ---- the bytes of words read back as them
read-from : (p vs : List ℕ) (at : ℕ) → Words vs → Stands p at (word_bytes vs) → words_at (length vs) p at ≡ vs
unfolding words_at word_bytes
read-from p [] at w s = refl
read-from p (v ∷ vs) at w s =
    let g = little-given p 8 v at (word_bytes vs) (w.each 0) s in
    ap₂ {C = List ℕ} (λ (a : ℕ) (r : List ℕ). a ∷ r) g.0 (read-from p vs (at + 8) (rest-words v vs w) g.1)

pub read-words : (vs : List ℕ) → Words vs → words_at (length vs) (word_bytes vs) 0 ≡ vs
read-words vs w = read-from (word_bytes vs) vs 0 w (record { bytes = refl; within = omega arith })
