-- What the encoding has room for: the numbers that stand in tokens and instructions, and how many tokens an expression has.
-- Assumes nothing.
use Rattle.std.specs.Prelude.{List, [], ◌∷◌, ◌^◌, ◌<◌, ◌≤◌, length}
use Rattle.location.specs.Sets.{registers}
use Rattle.rules.specs.Rules.Limits.{max_tokens}
use Rattle.rules.specs.Rules.Expressions.{Token, reg, const, op1, op2, Expr}
use Rattle.rules.specs.Rules.Instructions.{Instr, skip, assign, load, store, jmp, beqz, cassign, spbarr}

-- "0 to 15 a register; 16 a constant, 8 bytes after it"
abbrev pub TokenFits : Token → Type 0
TokenFits (reg r) = r < registers
TokenFits (const c) = c < 2 ^ 64
TokenFits (op1 o) = Unit
TokenFits (op2 o) = Unit

pub data TokensFit : Expr → Type 0 where
  nil : TokensFit []
  more : {t : Token} {ts : Expr} → TokenFits t → TokensFit ts → TokensFit (t ∷ ts)

-- "An expression is a byte with its token count, 1 to 16, then the tokens."
pub record ExprFits (e : Expr) : Type 0 where
  pub tokens : TokensFit e
  pub most : length e ≤ max_tokens

-- "register over 15"; a label has 2 bytes
abbrev pub InstrFits : Instr → Type 0
InstrFits skip = Unit
InstrFits (assign r e) = (r < registers) × ExprFits e
InstrFits (load r e) = (r < registers) × ExprFits e
InstrFits (store r e) = (r < registers) × ExprFits e
InstrFits (jmp e) = ExprFits e
InstrFits (beqz r l) = (r < registers) × (l < 2 ^ 16)
InstrFits (cassign r c e) = (r < registers) × ExprFits c × ExprFits e
InstrFits spbarr = Unit

pub data InstrsFit : List Instr → Type 0 where
  nil : InstrsFit []
  more : {x : Instr} {xs : List Instr} → InstrFits x → InstrsFit xs → InstrsFit (x ∷ xs)
