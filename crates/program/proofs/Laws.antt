-- How the loop over instructions meets the rules.
-- Assumes nothing.
use mathlib.Core.Path.{◌≡◌, refl, ap}
use mathlib.Core.Bool.{true}
use mathlib.Core.List.{List, [], ◌∷◌}
use Prim.Native.Nat.{ℕ, suc, ◌+◌}
use Rattle.std.specs.Prelude.{Ok, Err}
use Rattle.rules.specs.declared.Refusal.{Refusal}
use Rattle.rules.specs.Rules.Instructions.{Instr, skip}
use Rattle.rules.specs.Rules.JobFile.{Read, got, refused, and_then, instr, instruction, program}
use Rattle.rules.specs.Theorems.Readers.{readable, next_offset, value_or, unread, first_read}
use Rattle.program.specs.Checks.{checked_of}
use Rattle.program.specs.Programs.{instruction-found}

-- ---- the program: one instruction more, or a refusal
first : (R : Read (List Instr)) (x : Instr) → checked_of (and_then R (λ xs q. got (x ∷ xs) q)) ≡ checked_of R
first (got xs q) x = refl
first (refused r) x = refl

onward : (R : Read Instr) (f : ℕ → Read (List Instr)) (q : ℕ) → Ok q ≡ checked_of R
    → checked_of (and_then R (λ x q. and_then (f q) (λ xs q'. got (x ∷ xs) q'))) ≡ checked_of (f q)
onward (got x q') f q e = let e₁ : q ≡ q' = cc in rw e₁ (first (f q') x)
onward (refused r) f q e = absurd (cc)

pub program-next : (n k i : ℕ) (p : List ℕ) (at q : ℕ) → Ok q ≡ checked_of (instruction n i p at)
    → checked_of (program n (suc k) i p at) ≡ checked_of (program n k (i + 1) p q)
unfolding program
program-next n k i p at q e = onward (instruction n i p at) (program n k (i + 1) p) q e

halted : (R : Read Instr) (f : ℕ → Read (List Instr)) (r : Refusal) → Err r ≡ checked_of R
    → checked_of (and_then R (λ x q. and_then (f q) (λ xs q'. got (x ∷ xs) q'))) ≡ Err r
halted (got x q') f r e = absurd (cc)
halted (refused r') f r e = let e₁ : r' ≡ r = cc in ap Err e₁

pub program-refused : (n k i : ℕ) (p : List ℕ) (at : ℕ) (r : Refusal) → Err r ≡ checked_of (instruction n i p at)
    → checked_of (program n (suc k) i p at) ≡ Err r
unfolding program
program-refused n k i p at r e = halted (instruction n i p at) (program n k (i + 1) p) r e

-- ---- an accepted program: its first instruction, and the others
pub program-read : (n k i : ℕ) (p : List ℕ) (at : ℕ) → readable (program n (suc k) i p at) ≡ true
    → (readable (instr p at) ≡ true) × (readable (program n k (i + 1) p (next_offset (instr p at))) ≡ true)
unfolding program readable next_offset
program-read n k i p at h = go (instruction n i p at) refl (first_read skip (instruction n i p at) _ h)
  where
    rest : Instr → ℕ → Read (List Instr)
    rest x q = and_then (program n k (i + 1) p q) (λ xs q'. got (x ∷ xs) q')

    go : (R : Read Instr) → instruction n i p at ≡ R
        → (readable R ≡ true) × (and_then R rest ≡ rest (value_or skip R) (next_offset R))
        → (readable (instr p at) ≡ true) × (readable (program n k (i + 1) p (next_offset (instr p at))) ≡ true)
    go (refused r) e f = unread f.0
    go (got x q) e f =
        let w = instruction-found n i p at x q e in
        let z : readable (rest x q) ≡ true = rw e at h in
        (rw w.read, rw w.read (first_read [] (program n k (i + 1) p q) (λ xs q'. got (x ∷ xs) q') z).0)
