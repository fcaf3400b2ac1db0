-- The bytes of words, instructions and programs: what the readers of the job file take apart, put together. Theorems/Encoded proves that an
-- accepted program's bytes are those of its instructions.
-- Assumes nothing.
use Rattle.std.specs.Prelude.{List, [], ◌∷◌, ◌++◌, ℕ, zero, suc, ◌/◌, ◌%◌, ◌<◌, length, get_or}
use Rattle.rules.specs.Rules.Operators.{Op1, neg, inv, Op2, add, sub, mul, and, or, xor, shl, shr, eq, ult}
use Rattle.rules.specs.Rules.Expressions.{Token, reg, const, op1, op2, Expr}
use Rattle.rules.specs.Rules.Instructions.{Instr, skip, assign, load, store, jmp, beqz, cassign, spbarr, kind}

-- "Little-endian.": a number in k bytes, lowest first
unfoldable pub bytes_of : ℕ → ℕ → List ℕ
bytes_of zero v = []
bytes_of (suc k) v = (v % 256) ∷ bytes_of k (v / 256)

-- the words of a state: "16 registers and m cells, 8 bytes each"
unfoldable pub word_bytes : List ℕ → List ℕ
word_bytes [] = []
word_bytes (v ∷ vs) = bytes_of 8 v ++ word_bytes vs

-- "17 neg, 18 not"
abbrev pub op1_byte : Op1 → ℕ
op1_byte neg = 17
op1_byte inv = 18

-- "19 add, 20 sub, 21 mul, 22 and, 23 or, 24 xor, 25 shl, 26 shr, 27 eq, 28 ult"
abbrev pub op2_byte : Op2 → ℕ
op2_byte add = 19
op2_byte sub = 20
op2_byte mul = 21
op2_byte and = 22
op2_byte or = 23
op2_byte xor = 24
op2_byte shl = 25
op2_byte shr = 26
op2_byte eq = 27
op2_byte ult = 28

-- "one byte a token: 0 to 15 a register; 16 a constant, 8 bytes after it"
abbrev pub token_bytes : Token → List ℕ
token_bytes (reg r) = r ∷ []
token_bytes (const c) = 16 ∷ bytes_of 8 c
token_bytes (op1 o) = op1_byte o ∷ []
token_bytes (op2 o) = op2_byte o ∷ []

unfoldable pub tokens_bytes : Expr → List ℕ
tokens_bytes [] = []
tokens_bytes (t ∷ ts) = token_bytes t ++ tokens_bytes ts

-- "An expression is a byte with its token count, 1 to 16, then the tokens."
unfoldable pub expr_bytes : Expr → List ℕ
expr_bytes e = length e ∷ tokens_bytes e

-- the table's column "fields"
abbrev pub field_bytes : Instr → List ℕ
field_bytes skip = []
field_bytes (assign r e) = r ∷ expr_bytes e
field_bytes (load r e) = r ∷ expr_bytes e
field_bytes (store r e) = r ∷ expr_bytes e
field_bytes (jmp e) = expr_bytes e
field_bytes (beqz r l) = r ∷ bytes_of 2 l
field_bytes (cassign r c e) = r ∷ (expr_bytes c ++ expr_bytes e)
field_bytes spbarr = []

unfoldable pub instr_bytes : Instr → List ℕ
instr_bytes x = kind x ∷ field_bytes x

unfoldable pub program_bytes : List Instr → List ℕ
program_bytes [] = []
program_bytes (x ∷ xs) = instr_bytes x ++ program_bytes xs

-- every number of a list is a byte
pub record Bytes (p : List ℕ) : Type 0 where
  pub each : (i : ℕ) → get_or p i 0 < 256
