-- The fields of an instruction that can be read: each stands where the rules look for it, before the end of the bytes.
-- Assumes nothing.
use Rattle.std.specs.Prelude.{◌≡◌, refl, Bool, true, false, cond, List, [], ℕ, ◌+◌, ◌≤◌, ◌<◌, ltb, length, get_or}
use Rattle.std.proofs.Math.ListN.{get_or-eq_default}
use Rattle.std.proofs.Common.{ltb-true}
use Rattle.location.specs.Sets.{registers}
use Rattle.rules.specs.declared.Refusal.TheVariants as refusals
use Rattle.rules.specs.Rules.Expressions.{Expr}
use Rattle.rules.specs.Rules.Instructions.{Instr, skip, jmp, beqz, cassign}
use Rattle.rules.specs.Rules.JobFile.{Read, got, refused, and_then, refuse, little, word_of, byte, register, expr, with_register, jump, branch, conditional, fields, instr}
use Rattle.rules.specs.Theorems.Readers.{readable, next_offset, value_or, first_read, unread}
use Rattle.token.specs.Bytes.{byte-got}
use Rattle.token.specs.Readable.{byte-read, word_read}

-- ---- by the kind byte; a number that is none of the eight kinds
pub instr-kind : (p : List ℕ) (at k : ℕ) → at < length p → get_or p at 0 ≡ k → instr p at ≡ get_or fields k (refuse refusals.Encoding) p (at + 1)
unfolding instr
instr-kind p at k h e = rw (byte-got p at h, e)

pub instr_unknown : (p : List ℕ) (at : ℕ) → at < length p → 8 ≤ get_or p at 0 → instr p at ≡ refused refusals.Encoding
unfolding fields
instr_unknown p at h u = rw (instr-kind p at (get_or p at 0) h refl, get_or-eq_default fields (refuse refusals.Encoding) u)

-- ---- where something can be read
pub instr-read : (p : List ℕ) (at : ℕ) → readable (instr p at) ≡ true → at < length p
unfolding instr
instr-read p at h = byte-read p at (first_read 0 (byte p at) _ h).0

register-read : {A : Type 0} (p : List ℕ) (at : ℕ) (f : ℕ → ℕ → Read A) → readable (and_then (register p at) f) ≡ true
    → (at < length p) × (and_then (register p at) f ≡ f (get_or p at 0) (at + 1)) × (get_or p at 0 < registers)
unfolding register readable
register-read p at f h =
    let l = byte-read p at (first_read 0 (byte p at) _ (first_read 0 (register p at) f h).0).0 in
    let k = go (ltb (get_or p at 0) registers) refl (rw (byte-got p at l) at h) in
    (l, rw (byte-got p at l) k.0, k.1)
  where
    go : (b : Bool) → ltb (get_or p at 0) registers ≡ b
        → readable (and_then (cond b (got (get_or p at 0) (at + 1)) (refused refusals.Encoding)) f) ≡ true
        → (and_then (cond b (got (get_or p at 0) (at + 1)) (refused refusals.Encoding)) f ≡ f (get_or p at 0) (at + 1)) × (get_or p at 0 < registers)
    go true e h = (refl, ltb-true (get_or p at 0) registers e)
    go false e h = unread h

pub record WithParts (f : ℕ → Expr → Instr) (p : List ℕ) (at : ℕ) : Type 0 where
  pub room : at < length p
  pub expression : readable (expr p (at + 1)) ≡ true
  pub value : value_or skip (with_register f p at) ≡ f (get_or p at 0) (value_or [] (expr p (at + 1)))
  pub next : next_offset (with_register f p at) ≡ next_offset (expr p (at + 1))

pub with_parts : (f : ℕ → Expr → Instr) (p : List ℕ) (at : ℕ) → readable (with_register f p at) ≡ true → WithParts f p at
unfolding with_register next_offset
with_parts f p at h =
    let r = register-read p at _ h in
    let e = first_read [] (expr p (at + 1)) _ (rw r.1 at h) in
    record { room = r.0; expression = e.0; value = rw (r.1, e.1); next = rw (r.1, e.1) }

pub jump-parts : (p : List ℕ) (at : ℕ) → readable (jump p at) ≡ true
    → (readable (expr p at) ≡ true) × (value_or skip (jump p at) ≡ jmp (value_or [] (expr p at))) × (next_offset (jump p at) ≡ next_offset (expr p at))
unfolding jump next_offset
jump-parts p at h = let e = first_read [] (expr p at) _ h in (e.0, rw e.1, rw e.1)

pub record BranchParts (p : List ℕ) (at : ℕ) : Type 0 where
  pub room : at + 1 + 2 ≤ length p
  pub below : get_or p at 0 < registers
  pub value : value_or skip (branch p at) ≡ beqz (get_or p at 0) (little p (at + 1) 2)
  pub next : next_offset (branch p at) ≡ at + 1 + 2

pub branch-parts : (p : List ℕ) (at : ℕ) → readable (branch p at) ≡ true → BranchParts p at
unfolding branch next_offset
branch-parts p at h =
    let r = register-read p at _ h in
    let w = word_read 2 p (at + 1) (first_read 0 (word_of 2 p (at + 1)) _ (rw r.1 at h)).0 in
    record { room = w.0; below = r.2; value = rw (r.1, w.1); next = rw (r.1, w.1) }

pub record ConditionalParts (p : List ℕ) (at : ℕ) : Type 0 where
  pub room : at < length p
  pub condition : readable (expr p (at + 1)) ≡ true
  pub expression : readable (expr p (next_offset (expr p (at + 1)))) ≡ true
  pub value : value_or skip (conditional p at)
      ≡ cassign (get_or p at 0) (value_or [] (expr p (at + 1))) (value_or [] (expr p (next_offset (expr p (at + 1)))))
  pub next : next_offset (conditional p at) ≡ next_offset (expr p (next_offset (expr p (at + 1))))

pub conditional-parts : (p : List ℕ) (at : ℕ) → readable (conditional p at) ≡ true → ConditionalParts p at
unfolding conditional next_offset
conditional-parts p at h =
    let r = register-read p at _ h in
    let c = first_read [] (expr p (at + 1)) _ (rw r.1 at h) in
    let e = first_read [] (expr p (next_offset (expr p (at + 1)))) _ (rw (r.1, c.1) at h) in
    record { room = r.0; condition = c.0; expression = e.0; value = rw (r.1, c.1, e.1); next = rw (r.1, c.1, e.1) }
