-- A byte stored, or not where the area has ended; a text and a number byte by byte.
-- Assumes nothing.
use mathlib.Core.Path.{◌≡◌, refl, sym, ◌∙◌}
use mathlib.Core.List.{List, [], ◌∷◌, ◌++◌}
use Prim.Native.Nat.{ℕ, suc, ◌+◌, ◌-◌, ◌/◌, ◌%◌, ◌<◌, ◌≤◌}
use native.Mathlib.Omega.{arith}
use native.Mathlib.Numerals.{add-one}
use lib.ListN.{length, get_or, drop, set}
use lib.Seq.{set_out, drop-cons}
use Rattle.rules.specs.Rules.Encoding.{bytes_of}
use Rattle.byte_writer.specs.Writing.{Put}

-- ---- a byte
pub put-stored : {a b : List ℕ} {i v : ℕ} → b ≡ set a i v → Put a i (v ∷ []) b (i + 1)
put-stored e = record { area = e; place = refl }

-- past the end nothing is stored
pub put-past : {a b : List ℕ} {i : ℕ} (v : ℕ) → length a ≤ i → b ≡ a → Put a i (v ∷ []) b (i + 1)
put-past {a} {b} {i} v h e = record { area = e ∙ sym (set_out a i v h); place = refl }

-- ---- a text byte by byte
pub byte_next : (bytes : List ℕ) (i : ℕ) → i < length bytes → drop i bytes ≡ (get_or bytes i 0 ∷ []) ++ drop (i + 1) bytes
byte_next bytes i h = rw (add-one, drop-cons bytes i 0)

-- ---- a number byte by byte
pub number-next : (k i rest : ℕ) → i < k → bytes_of (k - i) rest ≡ ((rest % 256) ∷ []) ++ bytes_of (k - (i + 1)) (rest / 256)
unfolding bytes_of
number-next k i rest h =
    let e : k - i ≡ suc (k - (i + 1)) = omega arith in
    rw e

pub number-over : (rest : ℕ) → bytes_of 0 rest ≡ []
unfolding bytes_of
number-over rest = refl
