-- Sets of expressions, from their bytes on: gathered ahead of the value, and those of the value where every register is 0 and where every bit
-- of every register is 1 (document 02, F-5).
-- Assumes nothing.
use Rattle.std.specs.Prelude.{List, [], ◌∷◌, ℕ, ◌^◌}
use Rattle.location.specs.declared.LocationSet.{LocationSet}
use Rattle.rules.specs.Rules.Expressions.{Expr, tagged, eval, expr_set}
use Rattle.rules.specs.Rules.JobFile.{tokens}
use Rattle.rules.specs.Theorems.Readers.{value_or}
use Rattle.rules.specs.Cases.Operators.{all}

-- so many tokens, their bytes, and the first and the last word of their set
pub data SetRow : Type 0 where
  has : ℕ → List ℕ → ℕ → ℕ → SetRow

-- register r rests on location r, and on the cells whose bits are those of r in the last word
unfoldable pub sets_of : ℕ → LocationSet
sets_of r = record { words = 2 ^ r ∷ 0 ∷ 0 ∷ r ∷ [] }

unfoldable pub three_sets : Expr → List LocationSet → List LocationSet
three_sets e rest = expr_set sets_of e ∷ (eval (λ r. tagged 0 (sets_of r)) e).deps ∷ (eval (λ r. tagged all (sets_of r)) e).deps ∷ rest

unfoldable pub sets_given : List SetRow → List LocationSet
sets_given [] = []
sets_given (has k bytes x y ∷ rows) = three_sets (value_or [] (tokens k bytes 0)) (sets_given rows)

unfoldable pub thrice : LocationSet → List LocationSet → List LocationSet
thrice s rest = s ∷ s ∷ s ∷ rest

unfoldable pub sets_wanted : List SetRow → List LocationSet
sets_wanted [] = []
sets_wanted (has k bytes x y ∷ rows) = thrice (record { words = x ∷ 0 ∷ 0 ∷ y ∷ [] }) (sets_wanted rows)

unfoldable pub sets : List SetRow
sets =
    -- r3; 0x0807060504030201, whose bytes are no registers
    has 1 (3 ∷ []) 8 3 ∷ has 1 (16 ∷ 1 ∷ 2 ∷ 3 ∷ 4 ∷ 5 ∷ 6 ∷ 7 ∷ 8 ∷ []) 0 0
    -- r1 sub r1 and r2 mul 0, whatever their value; neg r5
    ∷ has 3 (1 ∷ 1 ∷ 20 ∷ []) 2 1 ∷ has 3 (2 ∷ 16 ∷ 0 ∷ 0 ∷ 0 ∷ 0 ∷ 0 ∷ 0 ∷ 0 ∷ 0 ∷ 21 ∷ []) 4 2 ∷ has 2 (5 ∷ 17 ∷ []) 32 5
    -- 0x0909090909090909 add r1: the token after the constant's bytes counts
    ∷ has 3 (16 ∷ 9 ∷ 9 ∷ 9 ∷ 9 ∷ 9 ∷ 9 ∷ 9 ∷ 9 ∷ 1 ∷ 19 ∷ []) 2 1
    -- (r1 add r2) xor not r4: the first and the last register count
    ∷ has 6 (1 ∷ 2 ∷ 19 ∷ 4 ∷ 18 ∷ 24 ∷ []) 22 7
    -- eight values held, sixteen tokens
    ∷ has 16 (8 ∷ 9 ∷ 10 ∷ 11 ∷ 12 ∷ 13 ∷ 14 ∷ 15 ∷ 19 ∷ 20 ∷ 21 ∷ 22 ∷ 23 ∷ 24 ∷ 28 ∷ 17 ∷ []) 65280 15
    ∷ []
