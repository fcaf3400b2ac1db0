-- The operators at their boundaries: 0, 1, 2^63, 2^64 − 1; shifts at the multiples of 64 and beside them. Tables.antt proves them.
-- Assumes nothing.
use Rattle.std.specs.Prelude.{List, [], ◌∷◌, ℕ}
use Rattle.rules.specs.Rules.Operators.{Op1, neg, inv, Op2, add, sub, mul, and, or, xor, shl, shr, eq, ult, apply1, apply2}

-- an operator with its operands, and the result
pub data Line : Type 0 where
  one : Op1 → ℕ → ℕ → Line
  two : Op2 → ℕ → ℕ → ℕ → Line

unfoldable pub computed : List Line → List ℕ
computed [] = []
computed (one o a r ∷ ls) = apply1 o a ∷ computed ls
computed (two o a b r ∷ ls) = apply2 o a b ∷ computed ls

unfoldable pub expected : List Line → List ℕ
expected [] = []
expected (one o a r ∷ ls) = r ∷ expected ls
expected (two o a b r ∷ ls) = r ∷ expected ls

unfoldable pub high : ℕ
high = 9223372036854775808

unfoldable pub all : ℕ
all = 18446744073709551615

unfoldable pub boundaries : List Line
boundaries =
    one neg 0 0 ∷ one neg 1 all ∷ one neg high high ∷ one neg all 1
    ∷ one inv 0 all ∷ one inv 1 18446744073709551614 ∷ one inv high 9223372036854775807 ∷ one inv all 0
    ∷ two add all 1 0 ∷ two add all all 18446744073709551614 ∷ two add high high 0 ∷ two add 0 1 1
    ∷ two sub 0 1 all ∷ two sub 1 0 1 ∷ two sub 0 0 0 ∷ two sub all all 0 ∷ two sub 0 high high
    ∷ two mul high 2 0 ∷ two mul all all 1 ∷ two mul 4294967296 4294967296 0 ∷ two mul 4294967295 4294967297 all ∷ two mul 0 all 0
    ∷ two and all high high ∷ two and high 1 0 ∷ two or high 1 9223372036854775809 ∷ two or 0 all all
    ∷ two xor all 1 18446744073709551614 ∷ two xor all all 0
    -- each shift by 0, 1, 63, 64, 65, 127, 128, 2^63 and 2^64 − 1; then these numbers as left operands, so that exchanged operands show
    ∷ two shl 1 0 1 ∷ two shl 1 1 2 ∷ two shl 1 63 high ∷ two shl 1 64 1 ∷ two shl 1 65 2
    ∷ two shl 1 127 high ∷ two shl 1 128 1 ∷ two shl 1 high 1 ∷ two shl 1 all high
    ∷ two shl 3 0 3 ∷ two shl 3 1 6 ∷ two shl 3 63 high ∷ two shl 3 64 3 ∷ two shl 3 65 6
    ∷ two shl 3 127 high ∷ two shl 3 128 3 ∷ two shl 3 high 3 ∷ two shl 3 all high
    ∷ two shl all 0 all ∷ two shl all 1 18446744073709551614 ∷ two shl all 63 high ∷ two shl all 64 all ∷ two shl all 65 18446744073709551614
    ∷ two shl all 127 high ∷ two shl all 128 all ∷ two shl all high all ∷ two shl all all high
    ∷ two shr 64 0 64 ∷ two shr 64 1 32 ∷ two shr 64 63 0 ∷ two shr 64 64 64 ∷ two shr 64 65 32
    ∷ two shr 64 127 0 ∷ two shr 64 128 64 ∷ two shr 64 high 64 ∷ two shr 64 all 0
    ∷ two shr high 0 high ∷ two shr high 1 4611686018427387904 ∷ two shr high 63 1 ∷ two shr high 64 high ∷ two shr high 65 4611686018427387904
    ∷ two shr high 127 1 ∷ two shr high 128 high ∷ two shr high high high ∷ two shr high all 1
    ∷ two shr all 0 all ∷ two shr all 1 9223372036854775807 ∷ two shr all 63 1 ∷ two shr all 64 all ∷ two shr all 65 9223372036854775807
    ∷ two shr all 127 1 ∷ two shr all 128 all ∷ two shr all high all ∷ two shr all all 1
    ∷ two shl 0 64 0 ∷ two shl 63 1 126 ∷ two shl 64 3 512 ∷ two shl 65 64 65 ∷ two shl 127 65 254 ∷ two shl 128 1 256
    ∷ two shl high 1 0 ∷ two shl high 64 high
    ∷ two shr 0 64 0 ∷ two shr 1 64 1 ∷ two shr 3 64 3 ∷ two shr 63 1 31 ∷ two shr 65 64 65 ∷ two shr 127 65 63 ∷ two shr 128 1 64
    ∷ two eq 0 0 1 ∷ two eq 0 high 0 ∷ two eq all all 1 ∷ two ult 0 1 1 ∷ two ult 1 0 0 ∷ two ult all 0 0 ∷ two ult high all 1 ∷ two ult high high 0
    ∷ []
