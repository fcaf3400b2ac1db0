-- A program as text: "Printing puts one space between parts, none just inside brackets".
-- Assumes nothing.
use Rattle.std.specs.Prelude.{List, [], ◌∷◌, ◌++◌, ℕ, get_or}
use Rattle.rules.specs.Rules.Operators.{Op1, Op2}
use Rattle.rules.specs.Rules.Expressions.{Token, reg, const, op1, op2, Expr}
use Rattle.rules.specs.Rules.Instructions.{Instr, skip, assign, load, store, jmp, beqz, cassign, spbarr, kind}
use Rattle.rules.specs.Rules.Listing.{decimal}
use Rattle.rules.specs.Rules.Parts.{newline, space, opening_bracket, closing_bracket}
use Rattle.rules.specs.Rules.TextReading.{instruction_words, sign_name, operator_name}

-- "r0 to r15"
unfoldable pub register_text : ℕ → List ℕ
register_text r = 114 ∷ decimal r

-- a sign before an operand; "two operands round an operator name in brackets"
unfoldable pub signed_text : Op1 → List ℕ → List ℕ
signed_text o x = sign_name o ++ (space ∷ x)

unfoldable pub bracketed_text : Op2 → List ℕ → List ℕ → List ℕ
bracketed_text o x y = opening_bracket ∷ (x ++ (space ∷ (operator_name o ++ (space ∷ (y ++ (closing_bracket ∷ []))))))

-- One token over a stack of texts whose top comes first, as document 01's evaluation has one of values.
unfoldable pub text_pushed : Token → List (List ℕ) → List (List ℕ)
text_pushed (reg r) st = register_text r ∷ st
text_pushed (const c) st = decimal c ∷ st
text_pushed (op1 o) [] = []
text_pushed (op1 o) (x ∷ st) = signed_text o x ∷ st
text_pushed (op2 o) [] = []
text_pushed (op2 o) (y ∷ []) = []
text_pushed (op2 o) (y ∷ x ∷ st) = bracketed_text o x y ∷ st

unfoldable pub text_on : Expr → List (List ℕ) → List (List ℕ)
text_on [] st = st
text_on (t ∷ ts) st = text_on ts (text_pushed t st)

unfoldable pub top_text : List (List ℕ) → List ℕ
top_text [] = []
top_text (x ∷ st) = x

unfoldable pub expr_text : Expr → List ℕ
expr_text e = top_text (text_on e [])

-- a field after its space
abbrev pub spaced : List ℕ → List ℕ
spaced x = space ∷ x

abbrev pub field_text : Instr → List ℕ
field_text skip = []
field_text (assign r e) = spaced (register_text r) ++ spaced (expr_text e)
field_text (load r e) = spaced (register_text r) ++ spaced (expr_text e)
field_text (store r e) = spaced (register_text r) ++ spaced (expr_text e)
field_text (jmp e) = spaced (expr_text e)
field_text (beqz r l) = spaced (register_text r) ++ spaced (decimal l)
field_text (cassign r c e) = spaced (register_text r) ++ (spaced (expr_text c) ++ spaced (expr_text e))
field_text spbarr = []

-- "each ended by a newline"
unfoldable pub instr_text : Instr → List ℕ
instr_text x = get_or instruction_words (kind x) [] ++ (field_text x ++ (newline ∷ []))

unfoldable pub program_text : List Instr → List ℕ
program_text [] = []
program_text (x ∷ xs) = instr_text x ++ program_text xs
