-- Reading a routine as text: names, operands, lines, and the instructions of a whole text.
-- Assumes nothing.
use Rattle.std.specs.Prelude.{Bool, true, false, not, ◌&&◌, cond, List, [], ◌∷◌, ◌++◌, ℕ, zero, suc, ◌+◌, ◌-◌, ◌*◌, ◌^◌, eqb, leb, ltb, length, get_or}
use Rattle.std.proofs.Math.Option.{Option, none, some}
use Rattle.location.specs.Sets.{registers}
use Rattle.rules.specs.Rules.Limits.{max_instructions, max_tokens}
use Rattle.rules.specs.Rules.Operators.{Op1, neg, inv, Op2, add, sub, mul, and, or, xor, shl, shr, eq, ult}
use Rattle.rules.specs.Rules.Expressions.{reg, const, op1, op2, Expr}
use Rattle.rules.specs.Rules.Instructions.{Instr, skip, assign, load, store, jmp, beqz, cassign, spbarr}
use Rattle.rules.specs.Rules.Answers.{text}
use Rattle.rules.specs.Rules.JobFile.{unary, binary, postfix, branch_label_holds}
use Rattle.rules.specs.Rules.Pairs.{same_words}
use Rattle.rules.specs.Rules.Parts.{is_digit, Part, name, opening, closing, other, parts, lines_of}

-- ---- names
-- "The eight instruction words are spelled exactly: skip, set, load, store, jmp, beqz, cset, spbarr.": by kind
unfoldable pub instruction_words : List (List ℕ)
instruction_words = text "skip" ∷ text "set" ∷ text "load" ∷ text "store" ∷ text "jmp" ∷ text "beqz" ∷ text "cset" ∷ text "spbarr" ∷ []

-- "a sign neg or not"
abbrev pub sign_name : Op1 → List ℕ
sign_name neg = text "neg"
sign_name inv = text "not"

-- "an operator name": document 01's
abbrev pub operator_name : Op2 → List ℕ
operator_name add = text "add"
operator_name sub = text "sub"
operator_name mul = text "mul"
operator_name and = text "and"
operator_name or = text "or"
operator_name xor = text "xor"
operator_name shl = text "shl"
operator_name shr = text "shr"
operator_name eq = text "eq"
operator_name ult = text "ult"

-- the first of some things whose name this is
unfoldable pub called : {A : Type 0} → (A → List ℕ) → List A → List ℕ → Option A
called word [] w = none
called word (a ∷ as') w = cond (same_words w (word a)) (some a) (called word as' w)

unfoldable pub sign_named : List ℕ → Option Op1
sign_named w = called sign_name unary w

unfoldable pub operator_named : List ℕ → Option Op2
operator_named w = called operator_name binary w

-- the place of a word among some words; their number if it is none of them
unfoldable pub place_among : List (List ℕ) → List ℕ → ℕ
place_among [] w = 0
place_among (v ∷ vs) w = cond (same_words w v) 0 (suc (place_among vs w))

-- ---- numbers: "no number has a needless leading zero"
unfoldable pub digits_only : List ℕ → Bool
digits_only [] = true
digits_only (b ∷ bs) = is_digit b && digits_only bs

-- at least one byte, and no zero before others
abbrev pub no_needless_zero : List ℕ → Bool
no_needless_zero [] = false
no_needless_zero (b ∷ []) = true
no_needless_zero (b ∷ c ∷ bs) = not (eqb b 48)

-- the value of digits that follow digits with value x
unfoldable pub value_after : ℕ → List ℕ → ℕ
value_after x [] = x
value_after x (d ∷ ds) = value_after (10 * x + (d - 48)) ds

-- a number below a limit
unfoldable pub number_below : ℕ → List ℕ → Option ℕ
number_below limit w = cond (digits_only w && (no_needless_zero w && ltb (value_after 0 w) limit)) (some (value_after 0 w)) none

-- "decimal constants"; "a constant of 2^64 or more" is none
unfoldable pub constant_named : List ℕ → Option ℕ
constant_named w = number_below (2 ^ 64) w

-- "r0 to r15"
unfoldable pub register_named : List ℕ → Option ℕ
register_named [] = none
register_named (b ∷ w) = cond (eqb b 114) (number_below registers w) none

-- ---- readers of parts: what stands first, and the parts after it
pub data Taken (A : Type 0) : Type 0 where
  took : A → List Part → Taken A
  nothing : Taken A

abbrev pub PartReader : Type 0 → Type 0
PartReader A = List Part → Taken A

abbrev pub and_take : {A B : Type 0} → Taken A → (A → PartReader B) → Taken B
and_take (took a ps) f = f a ps
and_take nothing f = nothing

infixl 20 ◌>>=◌
abbrev pub ◌>>=◌ : {A B : Type 0} → PartReader A → (A → PartReader B) → PartReader B
m >>= f = λ ps. and_take (m ps) f

abbrev pub return : {A : Type 0} → A → PartReader A
return a = λ ps. took a ps

-- something of a name, if it is one
abbrev pub taken : {A : Type 0} → Option A → List Part → Taken A
taken none ps = nothing
taken (some a) ps = took a ps

abbrev pub by_name : {A : Type 0} → (List ℕ → Option A) → PartReader A
by_name f [] = nothing
by_name f (name w ∷ ps) = taken (f w) ps
by_name f (opening ∷ ps) = nothing
by_name f (closing ∷ ps) = nothing
by_name f (other b ∷ ps) = nothing

abbrev pub closed : {A : Type 0} → A → PartReader A
closed a [] = nothing
closed a (name w ∷ ps) = nothing
closed a (opening ∷ ps) = nothing
closed a (closing ∷ ps) = took a ps
closed a (other b ∷ ps) = nothing

-- ---- operands: "Operands are decimal constants, r0 to r15, a sign neg or not before an operand, or two operands round an operator
-- name in brackets. A bracketed operand is again an expression." They are read as document 01's postfix.
-- a register or a constant
unfoldable pub simple_named : List ℕ → Option Expr
simple_named w =
    elim (register_named w) [
      | some r ↦ some (reg r ∷ [])
      | none ↦ elim (constant_named w) [ some c ↦ some (const c ∷ []) | none ↦ none ]
    ]

-- an expression after its opening bracket, by a reader of its operands
unfoldable pub expression : PartReader Expr → PartReader Expr
expression operand = do
  x ← operand
  o ← by_name operator_named
  y ← operand
  closed (x ++ (y ++ (op2 o ∷ [])))

-- a sign before an operand, by a reader of that operand
unfoldable pub signed : PartReader Expr → Op1 → PartReader Expr
signed operand o = do
  x ← operand
  return (x ++ (op1 o ∷ []))

-- an operand that starts with a name
abbrev pub named_operand : PartReader Expr → List ℕ → PartReader Expr
named_operand operand w = λ ps. elim (sign_named w) [ some o ↦ signed operand o ps | none ↦ taken (simple_named w) ps ]

abbrev pub operand_by : PartReader Expr → PartReader Expr
operand_by operand [] = nothing
operand_by operand (name w ∷ ps) = named_operand operand w ps
operand_by operand (opening ∷ ps) = expression operand ps
operand_by operand (closing ∷ ps) = nothing
operand_by operand (other b ∷ ps) = nothing

-- An operand of at most so many levels of signs and brackets.
unfoldable pub operand : ℕ → PartReader Expr
operand zero = λ ps. nothing
operand (suc k) = operand_by (operand k)

-- "token count not 1 to 16"
abbrev pub counted : Expr → PartReader Expr
counted e = λ ps. cond (leb (length e) max_tokens) (took e ps) nothing

-- An operand of k levels has at least k tokens, so that as many levels as tokens lose none.
unfoldable pub whole_operand : PartReader Expr
whole_operand = do
  e ← operand max_tokens
  counted e

-- ---- lines: "fields in document 01's order"
unfoldable pub with_register : (ℕ → Expr → Instr) → PartReader Instr
with_register f = do
  r ← by_name register_named
  e ← whole_operand
  return (f r e)

unfoldable pub jump : PartReader Instr
jump = do
  e ← whole_operand
  return (jmp e)

unfoldable pub branch : PartReader Instr
branch = do
  r ← by_name register_named
  l ← by_name constant_named
  return (beqz r l)

unfoldable pub conditional : PartReader Instr
conditional = do
  r ← by_name register_named
  c ← whole_operand
  e ← whole_operand
  return (cassign r c e)

-- what follows each instruction word, by kind
unfoldable pub fields : List (PartReader Instr)
fields = return skip ∷ with_register assign ∷ with_register load ∷ with_register store ∷ jump ∷ branch ∷ conditional ∷ return spbarr ∷ []

unfoldable pub instr_named : List ℕ → PartReader Instr
instr_named w = get_or fields (place_among instruction_words w) (λ ps. nothing)

-- "One instruction at most stands on a line"
pub data Line : Type 0 where
  blank : Line
  holds : Instr → Line
  unreadable : Line

-- an instruction is the whole line
abbrev pub whole_line : Taken Instr → Line
whole_line nothing = unreadable
whole_line (took x []) = holds x
whole_line (took x (p ∷ ps)) = unreadable

unfoldable pub line_of : List Part → Line
line_of [] = blank
line_of (name w ∷ ps) = whole_line (instr_named w ps)
line_of (opening ∷ ps) = unreadable
line_of (closing ∷ ps) = unreadable
line_of (other b ∷ ps) = unreadable

-- ---- the whole text
abbrev pub joined_line : Line → Option (List Instr) → Option (List Instr)
joined_line blank r = r
joined_line unreadable r = none
joined_line (holds x) none = none
joined_line (holds x) (some xs) = some (x ∷ xs)

-- the instructions of lines, in order
unfoldable pub instructions_of : List (List ℕ) → Option (List Instr)
instructions_of [] = some []
instructions_of (l ∷ ls) = joined_line (line_of (parts l)) (instructions_of ls)

-- "a program that 4 to 6 would refuse": what reading has not settled, of the instructions from label i on, of n
unfoldable pub all_hold : ℕ → ℕ → List Instr → Bool
all_hold n i [] = true
all_hold n i (x ∷ xs) = (postfix x && branch_label_holds n i x) && all_hold n (i + 1) xs

-- "no instruction or over 512"
unfoldable pub program_holds : List Instr → Bool
program_holds xs = leb 1 (length xs) && (leb (length xs) max_instructions && all_hold (length xs) 0 xs)

-- the program of a text, if there is one
abbrev pub kept_if : Option (List Instr) → Option (List Instr)
kept_if none = none
kept_if (some xs) = cond (program_holds xs) (some xs) none

unfoldable pub read_text : List ℕ → Option (List Instr)
read_text t = kept_if (instructions_of (lines_of t))
