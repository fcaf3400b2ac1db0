-- The program that the words of a table describe; and the table of an accepted program's words, which describes that program.
-- Assumes nothing.
use Rattle.std.specs.Prelude.{◌≡◌, refl, Bool, true, false, cond, List, [], ◌∷◌, ◌++◌, ℕ, zero, suc, ◌+◌, ◌≤◌, ◌<◌, eqb, length, get_or, drop}
use Rattle.std.proofs.Common.{ap, ap₂, ◌∙◌, arith, get_or-drop}
use Rattle.std.proofs.lemmas.List.Edits.{sets}
use Rattle.rules.specs.declared.Refusal.TheVariants as refusals
use Rattle.rules.specs.Rules.Instructions.{Instr, skip}
use Rattle.rules.specs.Rules.JobFile.{Read, got, refused, and_then, instr, postfix, branch_label_holds, instruction, nothing_left, program}
use Rattle.rules.specs.Theorems.Readers.{readable, next_offset, value_or, refused-got}
use Rattle.instruction.specs.Fields.{instr-read}
use Rattle.descriptor.specs.Descriptors.{offsets, word_at, descriptor_in, instruction_in, Valid}
use Rattle.descriptor.specs.Reading.{word-valid}
use Rattle.program.specs.Words.{words_from, table-words}

-- the n instructions that the words ws describe, over the bytes p
unfoldable pub program_in : List ℕ → ℕ → List ℕ → List Instr
program_in p zero ws = []
program_in p (suc n) ws = instruction_in p (descriptor_in (get_or ws 0 0)) ∷ program_in p n (drop 1 ws)

-- Each of the words is that of an accepted program's instruction.
pub record Describes (p : List ℕ) (n : ℕ) (ws : List ℕ) : Type 0 where
  pub valid : (i : ℕ) → i < n → Valid p (descriptor_in (get_or ws i 0))

pub program-length : (p : List ℕ) (n : ℕ) (ws : List ℕ) → length (program_in p n ws) ≡ n
unfolding program_in
program-length p zero ws = refl
program-length p (suc n) ws = ap suc (program-length p n (drop 1 ws))

pub program-at : (p : List ℕ) (n : ℕ) (ws : List ℕ) (i : ℕ) → i < n
    → get_or (program_in p n ws) i skip ≡ instruction_in p (descriptor_in (get_or ws i 0))
unfolding program_in
program-at p zero ws i h = absurd (omega arith)
program-at p (suc n) ws zero h = refl
program-at p (suc n) ws (suc i) h =
    let z : 1 + i ≡ suc i = omega arith in
    program-at p n (drop 1 ws) i (omega arith)
    ∙ ap (λ (w : ℕ). instruction_in p (descriptor_in w)) (get_or-drop 1 ws i 0 ∙ ap (λ (k : ℕ). get_or ws k 0) z)

-- ---- an instruction that was read can be read at its offset, and keeps the postfix rule; q is the offset after it
pub record Found (p : List ℕ) (at : ℕ) (x : Instr) (q : ℕ) : Type 0 where
  pub read : instr p at ≡ got x q
  pub sound : postfix x ≡ true

pub instruction-found : (n i : ℕ) (p : List ℕ) (at : ℕ) (x : Instr) (q : ℕ) → instruction n i p at ≡ got x q → Found p at x q
unfolding instruction
instruction-found n i p at x q e = first (instr p at) refl e
  where
    branch_test : Instr → ℕ → Read Instr
    branch_test y q' = cond (branch_label_holds n i y) (got y q') (refused refusals.BranchLabel)

    tests : Instr → ℕ → Read Instr
    tests y q' = and_then (cond (postfix y) (got y q') (refused refusals.Postfix)) branch_test

    second : (y : Instr) (q' : ℕ) (a b : Bool) → postfix y ≡ a → branch_label_holds n i y ≡ b → instr p at ≡ got y q'
        → and_then (cond a (got y q') (refused refusals.Postfix)) branch_test ≡ got x q → Found p at x q
    second y q' false b ea eb r e = refused-got e
    second y q' true false ea eb r e = refused-got (rw eb at e)
    second y q' true true ea eb r e =
        let f : got y q' ≡ got x q = rw eb at e in
        let fx : y ≡ x = cc in
        record { read = r ∙ f; sound = rw fx at ea }

    first : (R : Read Instr) → instr p at ≡ R → and_then R tests ≡ got x q → Found p at x q
    first (got y q') r e = second y q' (postfix y) (branch_label_holds n i y) refl refl r e
    first (refused r') r e = refused-got e

-- ---- the words of an accepted program, with any words after them
abbrev Written : ℕ → List ℕ → List ℕ → List Instr → Type 0
Written k p ws xs = (program_in p k ws ≡ xs) × Describes p k ws

-- one instruction in front of k
cons : (k : ℕ) (p : List ℕ) (at : ℕ) (x : Instr) (q : ℕ) (ys : List Instr) (rest : List ℕ) → length p ≤ offsets → Found p at x q
    → Written k p (words_from k p q ++ rest) ys → Written (suc k) p (words_from (suc k) p at ++ rest) (x ∷ ys)
unfolding program_in words_from readable next_offset
cons k p at x q ys rest size f w =
    let r : readable (instr p at) ≡ true = rw f.read in
    let v : value_or skip (instr p at) ≡ x = rw f.read in
    let n : next_offset (instr p at) ≡ q = rw f.read in
    let l = instr-read p at r in
    let d = word-valid p at r (rw v f.sound) (omega arith) in
    rw n (ap₂ (λ (y : Instr) (zs : List Instr). y ∷ zs) (d.0 ∙ v) w.0, record { valid = each d.1 })
  where
    each : Valid p (descriptor_in (word_at p at)) → (i : ℕ) → i < suc k → Valid p (descriptor_in (get_or (word_at p at ∷ words_from k p q ++ rest) i 0))
    each d zero h = d
    each d (suc i) h = w.1.valid i (omega arith)

step : (n k i : ℕ) (p : List ℕ) (at : ℕ) (xs : List Instr) (q : ℕ) (rest : List ℕ) → length p ≤ offsets
    → ((ys : List Instr) (q' : ℕ) → program n k (i + 1) p q' ≡ got ys q → Written k p (words_from k p q' ++ rest) ys)
    → (R : Read Instr) → instruction n i p at ≡ R
    → and_then R (λ x q'. and_then (program n k (i + 1) p q') (λ ys q''. got (x ∷ ys) q'')) ≡ got xs q
    → Written (suc k) p (words_from (suc k) p at ++ rest) xs
step n k i p at xs q rest size rec (refused w) r e = refused-got e
step n k i p at xs q rest size rec (got x q') r e = go (program n k (i + 1) p q') refl e
  where
    go : (S : Read (List Instr)) → program n k (i + 1) p q' ≡ S → and_then S (λ ys q''. got (x ∷ ys) q'') ≡ got xs q
        → Written (suc k) p (words_from (suc k) p at ++ rest) xs
    go (refused w) s e = refused-got e
    go (got ys q'') s e =
        let g : x ∷ ys ≡ xs = cc in
        let h : q'' ≡ q = cc in
        rw (← g) (cons k p at x q' ys rest size (instruction-found n i p at x q' r) (rec ys q' (rw h at s)))

written : (n k i : ℕ) (p : List ℕ) (at : ℕ) (xs : List Instr) (q : ℕ) (rest : List ℕ) → length p ≤ offsets → program n k i p at ≡ got xs q
    → Written k p (words_from k p at ++ rest) xs
unfolding program nothing_left program_in
written n zero i p at xs q rest size e = go (eqb at (length p)) e
  where
    go : (b : Bool) → cond b (got [] at) (refused refusals.Surplus) ≡ got xs q → Written 0 p (words_from 0 p at ++ rest) xs
    go true e = let f : [] ≡ xs = cc in (f, record { valid = λ i h. absurd (omega arith) })
    go false e = refused-got e
written n (suc k) i p at xs q rest size e =
    step n k i p at xs q rest size (λ ys q' s. written n k (i + 1) p q' ys q rest size s) (instruction n i p at) refl e

-- ---- the table that an accepted program's words were written to describes the program
module _ (n : ℕ) (p : List ℕ) {xs : List Instr} {q : ℕ} (read : program n n 0 p 0 ≡ got xs q) (size : length p ≤ offsets) where
  -- from a base on
  pub table-written : (table : List ℕ) (base : ℕ) → base + n ≤ length table
      → (program_in p n (drop base (sets table base (words_from n p 0))) ≡ xs) × Describes p n (drop base (sets table base (words_from n p 0)))
  table-written table base h =
      rw (table-words n p table base h) (written n n 0 p 0 xs q (drop (base + n) table) size read)
