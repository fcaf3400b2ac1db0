-- `token::stands` meets its contract, by the token's byte. Assumes nothing.
use Rattle.std.proofs.Common.{◌≡◌, ◌≢◌, refl, sym, ◌∙◌, ℕ, List, Bool, true, false, ◌-◌, ◌<◌, leb, length, get_or, leb-true, leb-false, ltb-true, ltb-false, arith}
use Rattle.std.proofs.lemmas.Grind.{get_or_default_zero}
use Rattle.rules.specs.Rules.JobFile.{token}
use Rattle.rules.specs.Theorems.Readers.{readable}
use Rattle.token.specs.Readable.{past-unreadable, unknown_unreadable, known-readable, constant-unreadable, constant-readable}
use Rattle.token.proofs.stands.Goals as goal

-- ---- x is the byte at an offset before the end
module _ (p : List ℕ) (at x : ℕ) (l : at < length p) (is : x ≡ get_or p at x) where
  byte : x ≡ get_or p at 0
  byte = is ∙ get_or_default_zero p at x l

  -- a constant stands where its eight bytes lie before the end
  constant_stands : x ≡ 16 → leb 9 (length p - at) ≡ readable (token p at)
  constant_stands e = go (leb 9 (length p - at)) refl
    where
      go : (b : Bool) → leb 9 (length p - at) ≡ b → b ≡ readable (token p at)
      go true h = let k = leb-true 9 (length p - at) h in sym (constant-readable p at l (sym byte ∙ e) (omega arith))
      go false h = let k = leb-false 9 (length p - at) h in sym (constant-unreadable p at l (sym byte ∙ e) (omega arith))

  -- any other token where its byte is known
  other_stands : x ≢ 16 → leb x 28 ≡ readable (token p at)
  other_stands n = go (leb x 28) refl
    where
      go : (b : Bool) → leb x 28 ≡ b → b ≡ readable (token p at)
      go true h = let k = leb-true x 28 h in let e = byte in sym (known-readable p at l (λ s. n (e ∙ s)) (omega arith))
      go false h = let k = leb-false x 28 h in let e = byte in sym (unknown_unreadable p at l (omega arith))

pub returns-in-None : goal.returns-in-None
returns-in-None c = sym (past-unreadable _ _ (ltb-false _ _ (sym c.in-None.ensures.lookup.0)))

pub returns-in-Some : goal.returns-in-Some
returns-in-Some c = let o = c.in-Some.ensures.lookup in other_stands _ _ _ (ltb-true _ _ (sym o.0)) o.1 c.in-Some.byte-test.1

pub returns-in-Some-eq16 : goal.returns-in-Some-eq16
returns-in-Some-eq16 c =
    let o = c.in-Some-eq16.ensures.lookup in constant_stands _ _ _ (ltb-true _ _ (sym o.0)) o.1 c.in-Some-eq16.field-0-test
