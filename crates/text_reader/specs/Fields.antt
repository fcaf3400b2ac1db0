-- What the readers of an instruction's fields say of the rules' reading: what was read, and what was written of it.
-- Assumes nothing.
use Rattle.std.specs.Prelude.{◌≡◌, Bool, true, false, not, ◌&&◌, List, [], ◌∷◌, ◌++◌, ℕ, ◌+◌, ◌≤◌, eqb, leb, drop, get_or, Option, Some, None}
use Rattle.rules.specs.Rules.Expressions.{Expr, sound}
use Rattle.rules.specs.Rules.Instructions.{Instr, kind}
use Rattle.rules.specs.Rules.Encoding.{bytes_of, expr_bytes, field_bytes}
use Rattle.rules.specs.Rules.Parts.{Part, parts}
use Rattle.rules.specs.Rules.TextReading.{Taken, took, nothing, PartReader, ◌>>=◌, return, by_name, register_named, constant_named, whole_operand, fields}
use Rattle.byte_writer.specs.Writing.{Put}
use Rattle.text_reader.specs.declared.Progress.{Progress}
use Rattle.text_reader.specs.Faults.{passes}

-- ---- a field of any kind: its bytes, the rules that it has to keep, and its largest size
pub record Field (A : Type 0) : Type 0 where
  pub bytes : A → List ℕ
  pub kept : A → Bool
  pub size : ℕ

-- It was read, as R says, keeps its rules, and is written; the reading goes on after it.
pub record Brought {A : Type 0} (F : Field A) (t : List ℕ) (R : Taken A) (a : List ℕ) (to : ℕ) (b : List ℕ) (q : Progress) : Type 0 where
  pub value : A
  pub read : R ≡ took value (parts (drop q.at t))
  pub kept : F.kept value ≡ true
  pub put : Put a to (F.bytes value) b q.to
  pub size : q.to ≤ to + F.size

-- none can be read that keeps its rules
pub record Unread {A : Type 0} (F : Field A) (R : Taken A) : Type 0 where
  pub breaks : (x : A) (ps : List Part) → R ≡ took x ps → F.kept x ≡ false

abbrev pub FieldTold : {A : Type 0} → Field A → List ℕ → Taken A → List ℕ → ℕ → List ℕ → Option Progress → Type 0
FieldTold F t R a to b (Some q) = Brought F t R a to b q
FieldTold F t R a to b None = Unread F R

-- ---- one field, then another
abbrev pub both : {A B : Type 0} → Field A → Field B → Field (A × B)
both F G = record {
  bytes = λ x. F.bytes x.0 ++ G.bytes x.1;
  kept = λ x. F.kept x.0 && G.kept x.1;
  size = F.size + G.size;
}

abbrev pub and_then : {A B : Type 0} → PartReader A → PartReader B → PartReader (A × B)
and_then f g = f >>= (λ x. g >>= (λ y. return (x, y)))

-- ---- the fields of instructions
abbrev pub register : Field ℕ
register = record { bytes = λ r. r ∷ []; kept = λ r. true; size = 1 }

abbrev pub expression : Field Expr
expression = record { bytes = expr_bytes; kept = sound; size = 145 }

-- the label of a branch that has label i itself, of n
abbrev pub label : ℕ → ℕ → Field ℕ
label n i = record { bytes = bytes_of 2; kept = λ l. leb l n && not (eqb l (i + 1)); size = 2 }

abbrev pub RegisterTold : List ℕ → ℕ → List ℕ → ℕ → List ℕ → Option Progress → Type 0
RegisterTold t at = FieldTold register t (by_name register_named (parts (drop at t)))

abbrev pub OperandTold : List ℕ → ℕ → List ℕ → ℕ → List ℕ → Option Progress → Type 0
OperandTold t at = FieldTold expression t (whole_operand (parts (drop at t)))

abbrev pub LabelTold : List ℕ → ℕ → ℕ → ℕ → List ℕ → ℕ → List ℕ → Option Progress → Type 0
LabelTold t at n i = FieldTold (label n i) t (by_name constant_named (parts (drop at t)))

-- a register, then an operand; a register, then a label; a register, then two operands
abbrev pub assignment_reader : PartReader (ℕ × Expr)
assignment_reader = and_then (by_name register_named) whole_operand

abbrev pub AssignmentTold : List ℕ → ℕ → List ℕ → ℕ → List ℕ → Option Progress → Type 0
AssignmentTold t at = FieldTold (both register expression) t (assignment_reader (parts (drop at t)))

abbrev pub BranchTold : List ℕ → ℕ → ℕ → ℕ → List ℕ → ℕ → List ℕ → Option Progress → Type 0
BranchTold t at n i = FieldTold (both register (label n i)) t (and_then (by_name register_named) (by_name constant_named) (parts (drop at t)))

abbrev pub ConditionalTold : List ℕ → ℕ → List ℕ → ℕ → List ℕ → Option Progress → Type 0
ConditionalTold t at = FieldTold (both (both register expression) expression) t (and_then assignment_reader whole_operand (parts (drop at t)))

-- ---- all fields of an instruction that has label i, of n
abbrev pub instruction : ℕ → ℕ → Field Instr
instruction n i = record { bytes = field_bytes; kept = passes n i; size = 291 }

-- the reader of what follows the instruction word, by kind
abbrev pub fields_of : ℕ → PartReader Instr
fields_of k = get_or fields k (λ ps. nothing)

-- they were read, of an instruction of that kind
pub record FieldsBrought (t : List ℕ) (at k n i : ℕ) (a : List ℕ) (to : ℕ) (b : List ℕ) (q : Progress) : Type 0 where
  pub fields : Brought (instruction n i) t (fields_of k (parts (drop at t))) a to b q
  pub kind : kind fields.value ≡ k

abbrev pub FieldsTold : List ℕ → ℕ → ℕ → ℕ → ℕ → List ℕ → ℕ → List ℕ → Option Progress → Type 0
FieldsTold t at k n i a to b (Some q) = FieldsBrought t at k n i a to b q
FieldsTold t at k n i a to b None = Unread (instruction n i) (fields_of k (parts (drop at t)))
