-- Where an instruction that can be read ends, by its kind.
-- Assumes nothing.
use mathlib.Core.Path.{◌≡◌, refl}
use mathlib.Core.Bool.{true}
use mathlib.Core.List.{List}
use Prim.Native.Nat.{ℕ, zero, suc, ◌+◌, ◌≤◌}
use native.Mathlib.Omega.{arith}
use lib.ListN.{length, get_or}
use Rattle.rules.specs.Rules.Expressions.{Expr}
use Rattle.rules.specs.Rules.Instructions.{Instr, assign, load, store}
use Rattle.rules.specs.Rules.JobFile.{expr, with_register, fields, instr}
use Rattle.rules.specs.Theorems.Readers.{readable, next_offset, unread}
use Rattle.instruction.specs.Fields.{instr-kind, instr_unknown, instr-read, with_parts, jump-parts, branch-parts, conditional-parts}

module _ (p : List ℕ) (at : ℕ) (h : readable (instr p at) ≡ true) where
  -- an instruction that reads nothing
  pub skip-next : get_or p at 0 ≡ 0 → next_offset (instr p at) ≡ at + 1
  unfolding fields next_offset
  skip-next e = rw (instr-kind p at 0 (instr-read p at h) e)

  pub barrier_next : get_or p at 0 ≡ 7 → next_offset (instr p at) ≡ at + 1
  unfolding fields next_offset
  barrier_next e = rw (instr-kind p at 7 (instr-read p at h) e)

  -- a branch: a register and two bytes
  pub branch-next : get_or p at 0 ≡ 5 → (at + 4 ≤ length p) × (next_offset (instr p at) ≡ at + 4)
  unfolding fields
  branch-next e =
      let i = instr-kind p at 5 (instr-read p at h) e in
      let w = branch-parts p (at + 1) (rw i at h) in
      let r = w.room in
      (omega arith, rw (i, w.next) (omega arith))

  -- a jump: an expression
  pub jump-next : get_or p at 0 ≡ 4 → (readable (expr p (at + 1)) ≡ true) × (next_offset (instr p at) ≡ next_offset (expr p (at + 1)))
  unfolding fields
  jump-next e =
      let i = instr-kind p at 4 (instr-read p at h) e in
      let w = jump-parts p (at + 1) (rw i at h) in
      (w.0, rw i w.2)

  -- a conditional assignment: a register and two expressions
  pub conditional-next : get_or p at 0 ≡ 6
      → (readable (expr p (at + 2)) ≡ true) × (readable (expr p (next_offset (expr p (at + 2)))) ≡ true)
      × (next_offset (instr p at) ≡ next_offset (expr p (next_offset (expr p (at + 2)))))
  unfolding fields
  conditional-next e =
      let i = instr-kind p at 6 (instr-read p at h) e in
      let w = conditional-parts p (at + 1) (rw i at h) in
      let z : at + 1 + 1 ≡ at + 2 = omega arith in
      (rw z at w.condition, rw z at w.expression, rw (i, ← z) w.next)

  -- any other: a register and an expression
  with_next : (f : ℕ → Expr → Instr) → instr p at ≡ with_register f p (at + 1)
      → (readable (expr p (at + 2)) ≡ true) × (next_offset (instr p at) ≡ next_offset (expr p (at + 2)))
  with_next f i =
      let w = with_parts f p (at + 1) (rw i at h) in
      let z : at + 1 + 1 ≡ at + 2 = omega arith in
      (rw z at w.expression, rw (i, ← z) w.next)

  pub with_register-next : (get_or p at 0 ≡ 0 → ⊥) → (get_or p at 0 ≡ 4 → ⊥) → (get_or p at 0 ≡ 5 → ⊥)
      → (get_or p at 0 ≡ 6 → ⊥) → (get_or p at 0 ≡ 7 → ⊥)
      → (readable (expr p (at + 2)) ≡ true) × (next_offset (instr p at) ≡ next_offset (expr p (at + 2)))
  unfolding fields readable
  with_register-next a b c d e = go (get_or p at 0) refl
    where
      go : (k : ℕ) → get_or p at 0 ≡ k → (readable (expr p (at + 2)) ≡ true) × (next_offset (instr p at) ≡ next_offset (expr p (at + 2)))
      go zero z = absurd (a z)
      go (suc zero) z = with_next assign (instr-kind p at 1 (instr-read p at h) z)
      go (suc (suc zero)) z = with_next load (instr-kind p at 2 (instr-read p at h) z)
      go (suc (suc (suc zero))) z = with_next store (instr-kind p at 3 (instr-read p at h) z)
      go (suc (suc (suc (suc zero)))) z = absurd (b z)
      go (suc (suc (suc (suc (suc zero))))) z = absurd (c z)
      go (suc (suc (suc (suc (suc (suc zero)))))) z = absurd (d z)
      go (suc (suc (suc (suc (suc (suc (suc zero))))))) z = absurd (e z)
      go (suc (suc (suc (suc (suc (suc (suc (suc k)))))))) z = unread (rw (instr_unknown p at (instr-read p at h) (omega arith)) at h)
