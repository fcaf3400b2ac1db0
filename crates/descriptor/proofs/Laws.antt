-- The kind bytes by which the matches go, and what stands in the bytes by the kind.
-- Assumes nothing.
use mathlib.Core.Path.{◌≡◌, refl}
use mathlib.Core.Bool.{Bool, true, false, ◌&&◌}
use mathlib.Core.List.{List}
use Prim.Native.Nat.{ℕ, zero, suc, ◌+◌, ◌*◌, ◌/◌, ◌%◌}
use native.Mathlib.Omega.{arith}
use lib.Dec.{eqb}
use lib.ListN.{get_or}
use borrow.Author.Tests.{eqb-true, eqb-false, ne_eqb}
use Rattle.rules.specs.Rules.Instructions.{skip}
use Rattle.rules.specs.Rules.JobFile.{little, jump, conditional, fields, instr}
use Rattle.rules.specs.Theorems.Readers.{readable, value_or, unread}
use Rattle.instruction.specs.Fields.{instr-kind, instr_unknown, instr-read}
use Rattle.descriptor.specs.Descriptors.{jump_shape, nothing_read, kind_shapes, shape_at, target_at, extra_at, offsets, shapes, firsts, descriptor_in}
use Rattle.descriptor.specs.Descriptors.{is_skip, WithExpression}

-- a kind that is none of 1 to 6
pub shape-nothing : (p : List ℕ) (at : ℕ) → (get_or p at 0 ≡ 1 → ⊥) → (get_or p at 0 ≡ 2 → ⊥) → (get_or p at 0 ≡ 3 → ⊥)
    → (get_or p at 0 ≡ 4 → ⊥) → (get_or p at 0 ≡ 5 → ⊥) → (get_or p at 0 ≡ 6 → ⊥) → 0 ≡ shape_at p at
unfolding kind_shapes shape_at
shape-nothing p at b c d e f g = go (get_or p at 0) refl
  where
    go : (k : ℕ) → get_or p at 0 ≡ k → 0 ≡ get_or kind_shapes k nothing_read p at
    go zero z = refl
    go (suc zero) z = absurd (b z)
    go (suc (suc zero)) z = absurd (c z)
    go (suc (suc (suc zero))) z = absurd (d z)
    go (suc (suc (suc (suc zero)))) z = absurd (e z)
    go (suc (suc (suc (suc (suc zero))))) z = absurd (f z)
    go (suc (suc (suc (suc (suc (suc zero)))))) z = absurd (g z)
    go (suc (suc (suc (suc (suc (suc (suc zero))))))) z = refl
    go (suc (suc (suc (suc (suc (suc (suc (suc k)))))))) z = refl

-- ---- the label of a branch, the place that a jump names, the place of a second expression, or none of them
pub label_extra : (p : List ℕ) (at : ℕ) → get_or p at 0 ≡ 5 → little p (at + 2) 2 ≡ extra_at p at
unfolding extra_at
label_extra p at e = rw e

pub target_extra : (p : List ℕ) (at : ℕ) → get_or p at 0 ≡ 4 → target_at p at ≡ extra_at p at
unfolding extra_at
target_extra p at e = rw e

pub jump-shape : (p : List ℕ) (at : ℕ) → get_or p at 0 ≡ 4 → jump_shape p (at + 1) ≡ shape_at p at
unfolding shape_at kind_shapes
jump-shape p at e = rw e

pub no_extra : (p : List ℕ) (at : ℕ) → (get_or p at 0 ≡ 4 → ⊥) → (get_or p at 0 ≡ 5 → ⊥) → (get_or p at 0 ≡ 6 → ⊥) → 0 ≡ extra_at p at
unfolding extra_at
no_extra p at a b c = rw (ne_eqb (get_or p at 0) 5 b, ne_eqb (get_or p at 0) 6 c, ne_eqb (get_or p at 0) 4 a)

-- ---- a conditional assignment or a jump that can be read
module _ (p : List ℕ) (at : ℕ) (h : readable (instr p at) ≡ true) where
  pub conditional-read : get_or p at 0 ≡ 6 → readable (conditional p (at + 1)) ≡ true
  unfolding fields
  conditional-read e = rw (instr-kind p at 6 (instr-read p at h) e) at h

  pub jump-read : get_or p at 0 ≡ 4 → (readable (jump p (at + 1)) ≡ true) × (value_or skip (jump p (at + 1)) ≡ value_or skip (instr p at))
  unfolding fields
  jump-read e = let i = instr-kind p at 4 (instr-read p at h) e in (rw i at h, rw i)

-- ---- an instruction with an expression whose kind is none of 1 to 4
pub kind_six : (p : List ℕ) (at : ℕ) → WithExpression p at → (get_or p at 0 ≡ 1 → ⊥) → (get_or p at 0 ≡ 2 → ⊥) → (get_or p at 0 ≡ 3 → ⊥)
    → (get_or p at 0 ≡ 4 → ⊥) → get_or p at 0 ≡ 6
unfolding readable
kind_six p at s a b c d = go (get_or p at 0) refl
  where
    go : (k : ℕ) → get_or p at 0 ≡ k → get_or p at 0 ≡ 6
    go zero z = absurd (s.kind.0 z)
    go (suc zero) z = absurd (a z)
    go (suc (suc zero)) z = absurd (b z)
    go (suc (suc (suc zero))) z = absurd (c z)
    go (suc (suc (suc (suc zero)))) z = absurd (d z)
    go (suc (suc (suc (suc (suc zero))))) z = absurd (s.kind.1 z)
    go (suc (suc (suc (suc (suc (suc zero)))))) z = z
    go (suc (suc (suc (suc (suc (suc (suc zero))))))) z = absurd (s.kind.2 z)
    go (suc (suc (suc (suc (suc (suc (suc (suc k)))))))) z =
        unread (rw (instr_unknown p at (instr-read p at s.read) (omega arith)) at s.read)

-- ---- the tests of a word: its shape and its first register at once are its remainder by as many numbers as both can be
pub skip_tested : (w : ℕ) → eqb (w / offsets % (shapes * firsts)) 0 ≡ is_skip (descriptor_in w)
unfolding descriptor_in
skip_tested w =
    go (w / offsets) (eqb (w / offsets % (shapes * firsts)) 0) (eqb (w / offsets % shapes) 0) (eqb (w / offsets / shapes % firsts) 0) refl refl refl
  where
    go : (n : ℕ) (a b c : Bool) → eqb (n % (shapes * firsts)) 0 ≡ a → eqb (n % shapes) 0 ≡ b → eqb (n / shapes % firsts) 0 ≡ c → a ≡ (b && c)
    go n true true true ea eb ec = refl
    go n true true false ea eb ec = let x = eqb-true (n % (shapes * firsts)) 0 ea in absurd (eqb-false (n / shapes % firsts) 0 ec (omega arith))
    go n true false c ea eb ec = let x = eqb-true (n % (shapes * firsts)) 0 ea in absurd (eqb-false (n % shapes) 0 eb (omega arith))
    go n false true true ea eb ec =
        let y = eqb-true (n % shapes) 0 eb in
        let z = eqb-true (n / shapes % firsts) 0 ec in
        absurd (eqb-false (n % (shapes * firsts)) 0 ea (omega arith))
    go n false true false ea eb ec = refl
    go n false false c ea eb ec = refl
