-- What the answers of this crate's code mean in the rules: an instruction, and what a reader found.
-- Assumes nothing.
use Rattle.std.specs.Prelude.{◌≡◌, List, ℕ, Result, Ok, Err}
use Rattle.location.specs.declared.Label.{Label}
use Rattle.rules.specs.declared.Refusal.{Refusal}
use Rattle.rules.specs.Rules.Expressions.{Expr, sound}
use Rattle.rules.specs.Rules.Instructions.{Instr, skip, assign, load, store, jmp, beqz, cassign, spbarr}
use Rattle.rules.specs.Rules.JobFile.{Read, got, refused, postfix}
use Rattle.token.specs.declared.Expression.{Expression}
use Rattle.token.specs.Meaning.{tokens_of}
use Rattle.instruction.specs.declared.Decoded.{Decoded}
use Rattle.instruction.specs.declared.Instruction.{Instruction}
use Rattle.instruction.specs.declared.Instruction.TheVariants.{Skip, Assign, Load, Store, Jump, BranchZero, AssignIf, Barrier}

abbrev pub register_read_meaning : Result (ℕ × ℕ) Refusal → Read ℕ
register_read_meaning (Ok (r, q)) = got r q
register_read_meaning (Err r) = refused r

abbrev pub label_read_meaning : Result (Label × ℕ) Refusal → Read ℕ
label_read_meaning (Ok (l, q)) = got l.0 q
label_read_meaning (Err r) = refused r

-- the instruction of the bytes p
abbrev pub meaning : List ℕ → Instruction → Instr
meaning p Skip = skip
meaning p (Assign r e) = assign r (tokens_of p e)
meaning p (Load r e) = load r (tokens_of p e)
meaning p (Store r e) = store r (tokens_of p e)
meaning p (Jump e) = jmp (tokens_of p e)
meaning p (BranchZero r l) = beqz r l.0
meaning p (AssignIf r c e) = cassign r (tokens_of p c) (tokens_of p e)
meaning p Barrier = spbarr

-- what is made of a register and an expression is the rules' instruction f of them
pub record Makes (p : List ℕ) (made : ℕ → Expression → Instruction → Type 0) (f : ℕ → Expr → Instr) : Type 0 where
  pub means : (r : ℕ) (e : Expression) (i : Instruction) → made r e i → meaning p i ≡ f r (tokens_of p e)
  pub tested : (r : ℕ) (e : Expr) → postfix (f r e) ≡ sound e

abbrev pub instruction_read_meaning : List ℕ → Result Decoded Refusal → Read Instr
instruction_read_meaning p (Ok d) = got (meaning p d.instruction) d.next
instruction_read_meaning p (Err r) = refused r

-- an instruction that was found comes with its answer to the postfix rule
abbrev pub InstructionTested : List ℕ → Result Decoded Refusal → Type 0
InstructionTested p (Ok d) = d.sound ≡ postfix (meaning p d.instruction)
InstructionTested p (Err r) = Unit {0}
