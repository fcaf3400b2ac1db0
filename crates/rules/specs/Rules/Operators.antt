-- The operators of expressions, on words of 64 bits.
-- Assumes nothing.
use Rattle.std.specs.Prelude.{Bool, true, false, ℕ, ◌+◌, ◌-◌, ◌*◌, ◌/◌, ◌%◌, ◌^◌, eqb, ltb}
use Rattle.std.specs.Int.Bits.{bit_and, bit_or, bit_xor}

-- "17 neg, 18 not (all bits)"
pub data Op1 : Type 0 where
  neg inv : Op1

-- "19 add, 20 sub, 21 mul, 22 and, 23 or, 24 xor, 25 shl, 26 shr, 27 eq, 28 ult (unsigned less)"
pub data Op2 : Type 0 where
  add sub mul and or xor shl shr eq ult : Op2

-- "eq and ult give 1 or 0."
abbrev pub flag : Bool → ℕ
flag true = 1
flag false = 0

-- "In expressions add, sub, mul and neg wrap modulo 2^64."
abbrev pub apply1 : Op1 → ℕ → ℕ
apply1 neg a = (2 ^ 64 - a) % 2 ^ 64
apply1 inv a = 2 ^ 64 - 1 - a

-- "The left operand comes first." A shift's count is the right one: "uses the shift count modulo 64" (document 02, F-2).
abbrev pub apply2 : Op2 → ℕ → ℕ → ℕ
apply2 add a b = (a + b) % 2 ^ 64
apply2 sub a b = (a + (2 ^ 64 - b)) % 2 ^ 64
apply2 mul a b = a * b % 2 ^ 64
apply2 and a b = bit_and a b
apply2 or a b = bit_or a b
apply2 xor a b = bit_xor a b
apply2 shl a b = a * 2 ^ (b % 64) % 2 ^ 64
apply2 shr a b = a / 2 ^ (b % 64)
apply2 eq a b = flag (eqb a b)
apply2 ult a b = flag (ltb a b)
