-- The eight instructions, their window costs, and what can be observed of them.
-- Assumes nothing.
use Rattle.std.specs.Prelude.{◌≡◌, Bool, List, [], ◌∷◌, ℕ, ◌<◌, eqb, Result, MatchResult}
use Rattle.rules.specs.declared.Kind.{Kind}
use Rattle.rules.specs.declared.Kind.TheVariants as kinds
use Rattle.rules.specs.declared.Refusal.{Refusal}
use Rattle.rules.specs.declared.Refusal.TheVariants as refusals
use Rattle.rules.specs.Rules.Expressions.{Expr}

-- The table of instructions: a register, an expression, a label as document 01's fields.
pub data Instr : Type 0 where
  skip : Instr
  assign : ℕ → Expr → Instr
  load : ℕ → Expr → Instr
  store : ℕ → Expr → Instr
  jmp : Expr → Instr
  beqz : ℕ → ℕ → Instr
  cassign : ℕ → Expr → Expr → Instr
  spbarr : Instr

-- the kind byte
abbrev pub kind : Instr → ℕ
kind skip = 0
kind (assign r e) = 1
kind (load r e) = 2
kind (store r e) = 3
kind (jmp e) = 4
kind (beqz r l) = 5
kind (cassign r c e) = 6
kind spbarr = 7

-- the byte of a kind
abbrev pub kind_number : Kind → ℕ
kind_number kinds.Skip = 0
kind_number kinds.Assign = 1
kind_number kinds.Load = 2
kind_number kinds.Store = 3
kind_number kinds.Jump = 4
kind_number kinds.BranchZero = 5
kind_number kinds.AssignIf = 6
kind_number kinds.Barrier = 7

-- the kind with this byte; "a kind byte or field past S" is refused with 4, and so is a byte that is no kind's
abbrev pub DecodesKind : ℕ → Result Kind Refusal → Type 0
DecodesKind byte r = MatchResult r (λ k. kind_number k ≡ byte) (λ n. (n ≡ refusals.Encoding) × (7 < byte))

abbrev pub is_barrier : Instr → Bool
is_barrier i = eqb (kind i) (kind spbarr)

-- a branch, with its register and label, or another instruction
pub data BranchView : Type 0 where
  branching : ℕ → ℕ → BranchView
  other : BranchView

abbrev pub branch_view : Instr → BranchView
branch_view skip = other
branch_view (assign r e) = other
branch_view (load r e) = other
branch_view (store r e) = other
branch_view (jmp e) = other
branch_view (beqz r l) = branching r l
branch_view (cassign r c e) = other
branch_view spbarr = other

-- "a constant table of eight window costs, all 1 here", by kind
unfoldable pub window_costs : List ℕ
window_costs = 1 ∷ 1 ∷ 1 ∷ 1 ∷ 1 ∷ 1 ∷ 1 ∷ 1 ∷ []

-- An observation has a kind and a value.
pub record Observation : Type 0 where
  pub kind : ℕ
  pub value : ℕ

abbrev pub observed : ℕ → ℕ → Observation
observed k v = record { kind = k; value = v }

-- the kinds: "0 start, 1 rollback, 2 pc, 3 load, 4 store"
abbrev pub start_kind : ℕ
start_kind = 0

abbrev pub rollback_kind : ℕ
rollback_kind = 1

abbrev pub pc_kind : ℕ
pc_kind = 2

abbrev pub load_kind : ℕ
load_kind = 3

abbrev pub store_kind : ℕ
store_kind = 4

abbrev pub start : ℕ → Observation
start i = observed start_kind i

abbrev pub rollback : ℕ → Observation
rollback i = observed rollback_kind i

abbrev pub pc : ℕ → Observation
pc p = observed pc_kind p

abbrev pub loaded : ℕ → Observation
loaded a = observed load_kind a

abbrev pub stored : ℕ → Observation
stored a = observed store_kind a
