-- The texts of an expression's operands, by the tokens as they stand in the bytes.
-- Assumes nothing.
use Rattle.std.specs.Prelude.{◌≡◌, true, List, [], ◌∷◌, ◌++◌, ℕ, zero, suc, ◌+◌, ◌^◌, ◌<◌, ◌≤◌, length, get_or, drop}
use Rattle.rules.specs.Rules.Limits.{max_tokens}
use Rattle.rules.specs.Rules.Operators.{Op1, Op2}
use Rattle.rules.specs.Rules.Expressions.{Token, reg, const, op1, op2, Expr, sound}
use Rattle.rules.specs.Rules.JobFile.{token}
use Rattle.rules.specs.Rules.Parts.{space}
use Rattle.rules.specs.Rules.TextReading.{sign_name, operator_name}
use Rattle.rules.specs.Rules.TextPrinting.{text_pushed, text_on, top_text}
use Rattle.rules.specs.Theorems.Readers.{readable, value_or}
use Rattle.token.specs.declared.Expression.{Expression}
use Rattle.token.specs.Meaning.{tokens_of}

-- a sign before its operand, an operator between its operands
unfoldable pub sign_part : Op1 → List ℕ
sign_part o = sign_name o ++ (space ∷ [])

unfoldable pub operator_part : Op2 → List ℕ
operator_part o = space ∷ (operator_name o ++ (space ∷ []))

-- the token at an offset, where one can be read
unfoldable pub token_in : List ℕ → ℕ → Token
token_in p at = value_or (const 0) (token p at)

-- the stack of texts after the first k tokens, which stand at the offsets
unfoldable pub texts_at : List ℕ → List ℕ → ℕ → List (List ℕ)
texts_at p offsets zero = []
texts_at p offsets (suc k) = text_pushed (token_in p (get_or offsets k 0)) (texts_at p offsets k)

-- How many tokens stand before the operand that a token ends, where i tokens stand before the token, and `below` says it for those.
abbrev pub below_after : List ℕ → ℕ → Token → ℕ
below_after below i (reg r) = i
below_after below i (const c) = i
below_after below i (op1 o) = get_or below i 0
below_after below i (op2 o) = get_or below (get_or below i 0) 0

-- Of k tokens each can be read at its offset; and before the last operand of the first i of them stand as many tokens as leave the
-- other operands.
pub record Indexed (p : List ℕ) (k : ℕ) (offsets below : List ℕ) : Type 0 where
  pub token : (i : ℕ) → i < k → readable (token p (get_or offsets i 0)) ≡ true
  pub first : (i : ℕ) → i ≤ k → get_or below i 0 ≤ i
  pub others : (i : ℕ) → i ≤ k → texts_at p offsets (get_or below i 0) ≡ drop 1 (texts_at p offsets i)

-- all tokens of an expression of the bytes
pub record IndexedAll (p : List ℕ) (e : Expression) (offsets below : List ℕ) : Type 0 where
  pub indexed : Indexed p e.count offsets below
  pub texts : texts_at p offsets e.count ≡ text_on (tokens_of p e) []

-- the first k tokens leave an operand, and there is room for its text
pub record Operand (p offsets below : List ℕ) (k at : ℕ) : Type 0 where
  pub indexed : Indexed p k offsets below
  pub many : k ≤ length offsets
  pub more : k < length below
  pub some : 0 < length (texts_at p offsets k)
  pub room : at + length (top_text (texts_at p offsets k)) < 2 ^ 64

-- what an accepted program says of an expression
pub record Printable (e : Expr) : Type 0 where
  pub sound : sound e ≡ true
  pub few : length e ≤ max_tokens
