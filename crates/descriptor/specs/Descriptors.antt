-- The words of the table of labels: for each instruction its offset, the shape of what it reads first, its first register, and the
-- label of a branch, the place that a jump to a constant names or the place of a second expression; and the instruction that a word describes.
-- Assumes nothing.
use Rattle.std.specs.Prelude.{◌≡◌, Bool, true, ◌&&◌, cond, List, [], ◌∷◌, ℕ, zero, suc, ◌+◌, ◌-◌, ◌*◌, ◌/◌, ◌%◌, ◌<◌, ◌≤◌, min, eqb, ltb, length, get_or}
use Rattle.location.specs.Sets.{registers}
use Rattle.rules.specs.Rules.Operators.{Op2, add}
use Rattle.rules.specs.Rules.Expressions.{Token, reg, const, op2, Expr, sound}
use Rattle.rules.specs.Rules.Instructions.{Instr, skip, assign, load, store, jmp, beqz, cassign, spbarr}
use Rattle.rules.specs.Rules.JobFile.{little, binary, expr, instr, postfix}
use Rattle.rules.specs.Theorems.Readers.{readable, next_offset, value_or}
use Rattle.instruction.specs.Registers.{RegistersBelow}
use Rattle.descriptor.specs.declared.Descriptor.{Descriptor}

-- ---- shapes: what an instruction reads first; src/lib.rt has the same numbers as constants, and says which bytes hold it
abbrev pub shape_nothing : ℕ
shape_nothing = 0

abbrev pub shape_register : ℕ
shape_register = 1

abbrev pub shape_constant : ℕ
shape_constant = 2

abbrev pub shape_register_constant : ℕ
shape_register_constant = 3

abbrev pub shape_register_register : ℕ
shape_register_register = 4

abbrev pub shape_jump_constant : ℕ
shape_jump_constant = 5

abbrev pub shape_branch : ℕ
shape_branch = 6

abbrev pub shape_general : ℕ
shape_general = 7

-- of one token, by its byte
abbrev pub one_shape : ℕ → ℕ
one_shape b = cond (ltb b 16) shape_register (cond (eqb b 16) shape_constant shape_general)

-- of three tokens, the first of them at an offset
abbrev pub three_shape : List ℕ → ℕ → ℕ
three_shape p at =
    cond (ltb 15 (get_or p at 0)) shape_general
    (cond (ltb (get_or p (at + 1) 0) 16) (cond (ltb (get_or p (at + 2) 0) 19) shape_general shape_register_register)
    (cond (eqb (get_or p (at + 1) 0) 16) (cond (ltb (get_or p (at + 10) 0) 19) shape_general shape_register_constant) shape_general))

-- of an expression whose token count is at an offset
abbrev pub expression_shape : List ℕ → ℕ → ℕ
expression_shape p at =
    cond (eqb (get_or p at 0) 1) (one_shape (get_or p (at + 1) 0)) (cond (eqb (get_or p at 0) 3) (three_shape p (at + 1)) shape_general)

-- of a jump's expression
abbrev pub jump_shape : List ℕ → ℕ → ℕ
jump_shape p at =
    cond (eqb (get_or p at 0) 1)
    (cond (ltb (get_or p (at + 1) 0) 16) shape_register (cond (eqb (get_or p (at + 1) 0) 16) shape_jump_constant shape_general)) shape_general

-- by the kind byte, of an instruction at an offset
abbrev pub nothing_read : List ℕ → ℕ → ℕ
nothing_read p at = shape_nothing

abbrev expression_read : List ℕ → ℕ → ℕ
expression_read p at = expression_shape p (at + 2)

abbrev jump_read : List ℕ → ℕ → ℕ
jump_read p at = jump_shape p (at + 1)

abbrev branch_read : List ℕ → ℕ → ℕ
branch_read p at = shape_branch

unfoldable pub kind_shapes : List (List ℕ → ℕ → ℕ)
kind_shapes = nothing_read ∷ expression_read ∷ expression_read ∷ expression_read ∷ jump_read ∷ branch_read ∷ expression_read ∷ nothing_read ∷ []

unfoldable pub shape_at : List ℕ → ℕ → ℕ
shape_at p at = get_or kind_shapes (get_or p at 0) nothing_read p at

-- the byte where its first register stands, if its shape has one; the kind of an instruction that reads nothing
abbrev pub first_by : ℕ → List ℕ → ℕ → ℕ
first_by k p at =
    cond (eqb k 0) 0 (cond (eqb k 4) (get_or p (at + 2) 0) (cond (eqb k 5) (get_or p (at + 1) 0) (cond (eqb k 7) 7 (get_or p (at + 3) 0))))

unfoldable pub first_at : List ℕ → ℕ → ℕ
first_at p at = first_by (get_or p at 0) p at

-- the farthest place that a word names: no program has so many labels, so that it stands for every larger one
abbrev pub farthest : ℕ
farthest = 65535

-- the constant from an offset on, as a place that a word can name
abbrev pub named : List ℕ → ℕ → ℕ
named p at = min (little p at 8) farthest

-- the place that a jump at an offset names; 0 where it is to no constant
abbrev pub target_at : List ℕ → ℕ → ℕ
target_at p at = cond (eqb (jump_shape p (at + 1)) shape_jump_constant) (named p (at + 3)) 0

-- the label of a branch; where the second expression of a conditional assignment stands; the place that a jump names; 0 of any other kind
abbrev pub extra_by : ℕ → List ℕ → ℕ → ℕ
extra_by k p at = cond (eqb k 5) (little p (at + 2) 2) (cond (eqb k 6) (next_offset (expr p (at + 2))) (cond (eqb k 4) (target_at p at) 0))

unfoldable pub extra_at : List ℕ → ℕ → ℕ
extra_at p at = extra_by (get_or p at 0) p at

-- where the constant and the operator of a shape that has them start
abbrev pub constant_place : ℕ → ℕ
constant_place s = cond (eqb s shape_register_constant) 5 (cond (eqb s shape_jump_constant) 3 4)

abbrev pub operator_place : ℕ → ℕ
operator_place s = cond (eqb s shape_register_constant) 13 5

-- where the token count of its first expression stands, if it has one: a jump has no register before it
unfoldable pub count_at : List ℕ → ℕ → ℕ
count_at p at = cond (eqb (get_or p at 0) 4) (at + 1) (at + 2)

-- ---- words
-- how many offsets, shapes and first registers a word can hold
abbrev pub offsets : ℕ
offsets = 65536

abbrev pub shapes : ℕ
shapes = 8

abbrev pub firsts : ℕ
firsts = 256

-- the word of the instruction at an offset, which is below `offsets`; the first register is a byte, and the remainder says so of any numbers
unfoldable pub word_at : List ℕ → ℕ → ℕ
word_at p at = at + offsets * (shape_at p at + shapes * (first_at p at % firsts + firsts * extra_at p at))

-- the descriptor that a word holds
unfoldable pub descriptor_in : ℕ → Descriptor
descriptor_in w = record {
  at = w % offsets;
  shape = w / offsets % shapes;
  first = w / offsets / shapes % firsts;
  extra = w / offsets / shapes / firsts;
}

-- ---- instructions
-- of a kind that reads nothing
abbrev pub bare : ℕ → Instr
bare k = cond (eqb k 0) skip spbarr

-- whether a descriptor's instruction reads nothing; and whether it is a skip by its kind, which is 0
abbrev pub is_bare : Descriptor → Bool
is_bare d = eqb d.shape shape_nothing

abbrev pub is_skip : Descriptor → Bool
is_skip d = is_bare d && eqb d.first 0

-- of a shape: nothing is read for an instruction without operands, nor for a branch
abbrev pub instruction_by : ℕ → List ℕ → ℕ → ℕ → ℕ → Instr
instruction_by s p at first extra = cond (eqb s shape_nothing) (bare first) (cond (eqb s shape_branch) (beqz first extra) (value_or skip (instr p at)))

-- the instruction that a descriptor describes, over the program's bytes
unfoldable pub instruction_in : List ℕ → Descriptor → Instr
instruction_in p d = instruction_by d.shape p d.at d.first d.extra

-- ---- what the shapes mean
-- the tokens that an instruction reads first
abbrev pub first_tokens : Instr → Expr
first_tokens skip = []
first_tokens (assign r e) = e
first_tokens (load r e) = e
first_tokens (store r e) = e
first_tokens (jmp e) = e
first_tokens (beqz r l) = reg r ∷ []
first_tokens (cassign r c e) = c
first_tokens spbarr = []

-- the operator of two operands by its byte, and its token
abbrev pub operator_by : ℕ → Op2
operator_by b = get_or binary (b - 19) add

abbrev pub operator_of : ℕ → Token
operator_of b = op2 (operator_by b)

-- not a branch
abbrev pub NoBranch : Instr → Type 0
NoBranch x = (r l : ℕ) → x ≡ beqz r l → ⊥

-- An instruction with an expression stands at an offset.
pub record WithExpression (p : List ℕ) (at : ℕ) : Type 0 where
  pub read : readable (instr p at) ≡ true
  pub kind : (get_or p at 0 ≡ 0 → ⊥) × (get_or p at 0 ≡ 5 → ⊥) × (get_or p at 0 ≡ 7 → ⊥)
  pub other : NoBranch (value_or skip (instr p at))

-- If the instruction at an offset is a conditional assignment, its second expression stands at `second`: after its condition.
abbrev pub SecondAt : List ℕ → ℕ → ℕ → Type 0
SecondAt p at second = get_or p at 0 ≡ 6 → second ≡ next_offset (expr p (at + 2))

-- Its first expression can be read, and keeps the postfix rule if the instruction x does.
abbrev pub General : List ℕ → ℕ → Instr → Type 0
General p at x =
    (first_tokens x ≡ value_or [] (expr p (count_at p at))) × (readable (expr p (count_at p at)) ≡ true)
    × (postfix x ≡ true → sound (first_tokens x) ≡ true)

-- What the shapes say of the bytes and of the instruction x at an offset, whose first register is r.
abbrev pub ShapeMeans : ℕ → List ℕ → ℕ → ℕ → Instr → Type 0
ShapeMeans zero p at r x = Unit
ShapeMeans (suc zero) p at r x = WithExpression p at × (first_tokens x ≡ reg r ∷ []) × (r < registers)
ShapeMeans (suc (suc zero)) p at r x = WithExpression p at × (first_tokens x ≡ const (little p (at + 4) 8) ∷ []) × (at + 12 ≤ length p)
ShapeMeans (suc (suc (suc zero))) p at r x =
    WithExpression p at × (first_tokens x ≡ reg r ∷ const (little p (at + 5) 8) ∷ operator_of (get_or p (at + 13) 0) ∷ [])
    × (r < registers) × (at + 14 ≤ length p) × (19 ≤ get_or p (at + 13) 0)
ShapeMeans (suc (suc (suc (suc zero)))) p at r x =
    WithExpression p at × (first_tokens x ≡ reg r ∷ reg (get_or p (at + 4) 0) ∷ operator_of (get_or p (at + 5) 0) ∷ [])
    × (r < registers) × (get_or p (at + 4) 0 < registers) × (at + 6 ≤ length p) × (19 ≤ get_or p (at + 5) 0)
ShapeMeans (suc (suc (suc (suc (suc zero))))) p at r x =
    WithExpression p at × (first_tokens x ≡ const (little p (at + 3) 8) ∷ []) × (at + 11 ≤ length p) × (get_or p at 0 ≡ 4)
ShapeMeans (suc (suc (suc (suc (suc (suc zero)))))) p at r x = Unit
ShapeMeans (suc (suc (suc (suc (suc (suc (suc n))))))) p at r x = WithExpression p at × General p at x

-- A descriptor of an accepted program's instruction: the instruction keeps the postfix rule, names registers below 16, and is what
-- the shape says. Where it stands in the bytes, its second expression stands where the descriptor says; and a jump to a constant names the
-- place that the descriptor says.
pub record Valid (p : List ℕ) (d : Descriptor) : Type 0 where
  pub sound : postfix (instruction_in p d) ≡ true
  pub below : RegistersBelow registers (instruction_in p d)
  pub shaped : ShapeMeans d.shape p d.at d.first (instruction_in p d)
  pub second : (d.shape ≡ shape_nothing → ⊥) → (d.shape ≡ shape_branch → ⊥) → SecondAt p d.at d.extra
  pub target : d.shape ≡ shape_jump_constant → d.extra ≡ named p (d.at + 3)
