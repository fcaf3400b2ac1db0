-- The words of a program's instructions, in the order of their labels, and a table that has them.
-- Assumes nothing.
use Rattle.std.specs.Prelude.{◌≡◌, refl, List, [], ◌∷◌, ◌++◌, ℕ, zero, suc, ◌+◌, ◌≤◌, length, take, drop}
use Rattle.std.proofs.Common.{sym, ap, ◌∙◌, append_assoc, arith, length-take-le}
use Rattle.std.proofs.lemmas.List.Edits.{sets, sets-eq}
use Rattle.std.proofs.Math.Seq.{drop-append_seam}
use Rattle.rules.specs.Rules.JobFile.{instr}
use Rattle.rules.specs.Theorems.Readers.{next_offset}
use Rattle.descriptor.specs.Descriptors.{word_at}

-- the words of k instructions, the first at an offset
unfoldable pub words_from : ℕ → List ℕ → ℕ → List ℕ
words_from zero p at = []
words_from (suc k) p at = word_at p at ∷ words_from k p (next_offset (instr p at))

pub length-words : (k : ℕ) (p : List ℕ) (at : ℕ) → length (words_from k p at) ≡ k
unfolding words_from
length-words zero p at = refl
length-words (suc k) p at = ap suc (length-words k p (next_offset (instr p at)))

-- ---- a table that the words of n instructions are written to, from a base on
module _ (n : ℕ) (p table : List ℕ) (base : ℕ) (h : base + n ≤ length table) where
  -- what stands there from the base on: the words, then the rest of the table
  pub table-words : drop base (sets table base (words_from n p 0)) ≡ words_from n p 0 ++ drop (base + n) table
  table-words =
      let vs = words_from n p 0 in
      let front = take base table in
      let lv : length vs ≡ n = length-words n p 0 in
      let lf : length front ≡ base = length-take-le base table (omega arith) in
      let rest = drop (base + length vs) table in
      ap (drop base) (sets-eq vs table base (omega arith) ∙ append_assoc front vs rest)
      ∙ ap (λ (k : ℕ). drop k (front ++ (vs ++ rest))) (sym lf)
      ∙ drop-append_seam front (vs ++ rest)
      ∙ ap (λ (k : ℕ). vs ++ drop (base + k) table) lv
