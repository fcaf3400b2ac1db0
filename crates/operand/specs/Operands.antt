-- What the readers of operands say of the rules' reading: what was read, and what was written of it.
-- Assumes nothing.
use Rattle.std.specs.Prelude.{◌≡◌, List, [], ◌∷◌, ℕ, ◌+◌, ◌-◌, ◌*◌, ◌^◌, ◌<◌, ◌≤◌, length, drop, Option, Some, None}
use Rattle.rules.specs.Rules.Limits.{max_tokens}
use Rattle.rules.specs.Rules.Operators.{Op2}
use Rattle.rules.specs.Rules.Expressions.{Expr, after, held, sound}
use Rattle.rules.specs.Rules.Encoding.{op2_byte, tokens_bytes, expr_bytes}
use Rattle.rules.specs.Rules.Parts.{Part, parts, closing}
use Rattle.rules.specs.Rules.TextReading.{Taken, took, nothing, by_name, closed, operator_named, whole_operand}
use Rattle.byte_writer.specs.Writing.{Put}
use Rattle.operand.specs.declared.Progress.{Progress}
use Rattle.operand.specs.declared.OperatorAt.{OperatorAt}
use Rattle.operand.specs.declared.Whole.{Whole}

-- There is room for as many tokens as an expression may still have: at most nine bytes each.
pub record Roomy (p : Progress) : Type 0 where
  pub few : p.count ≤ max_tokens
  pub room : p.to + 9 * (max_tokens - p.count) < 2 ^ 64

-- the same at another offset of the text
abbrev pub moved : Progress → ℕ → Progress
moved p next = record { at = next; to = p.to; count = p.count; held = p.held }

-- a name that stands in the text after an offset
pub record NameAt (t : List ℕ) (at start end : ℕ) : Type 0 where
  pub after : at ≤ start
  pub long : start < end
  pub within : end ≤ length t

-- ---- one token more
pub record Advanced (p : Progress) (next : ℕ) (bytes : List ℕ) (takes : ℕ) (a b : List ℕ) (q : Progress) : Type 0 where
  pub at : q.at ≡ next
  pub put : Put a p.to bytes b q.to
  pub count : q.count ≡ p.count + 1
  pub few : q.count ≤ max_tokens
  pub held : q.held ≡ after p.held takes

abbrev pub TokenPut : Progress → ℕ → List ℕ → ℕ → List ℕ → List ℕ → Option Progress → Type 0
TokenPut p at bytes takes a b (Some q) = Advanced p at bytes takes a b q
TokenPut p at bytes takes a b None = max_tokens ≤ p.count

-- ---- tokens read and written from p to q
pub record Tokens (p : Progress) (e : Expr) (a b : List ℕ) (q : Progress) : Type 0 where
  pub put : Put a p.to (tokens_bytes e) b q.to
  pub count : q.count ≡ p.count + length e
  pub few : q.count ≤ max_tokens
  pub held : q.held ≡ held p.held e

-- ---- an operand, of which R is the rules' reading: its tokens are written, and the reading goes on after it
pub record Brought (t : List ℕ) (R : Taken Expr) (p : Progress) (a b : List ℕ) (q : Progress) : Type 0 where
  pub expr : Expr
  pub read : R ≡ took expr (parts (drop q.at t))
  pub tokens : Tokens p expr a b q
  pub on : p.at < q.at
  pub within : q.at ≤ length t

-- none can be read, or it has too many tokens, after c others
pub record Unread (R : Taken Expr) (c : ℕ) : Type 0 where
  pub many : (e : Expr) (ps : List Part) → R ≡ took e ps → max_tokens < c + length e

abbrev pub OperandTold : List ℕ → Taken Expr → Progress → List ℕ → List ℕ → Option Progress → Type 0
OperandTold t R p a b (Some q) = Brought t R p a b q
OperandTold t R p a b None = Unread R p.count

-- ---- an operator's name
pub record OperatorRead (t : List ℕ) (at : ℕ) (r : OperatorAt) : Type 0 where
  pub operator : Op2
  pub read : by_name operator_named (parts (drop at t)) ≡ took operator (parts (drop r.next t))
  pub byte : r.byte ≡ op2_byte operator
  pub on : at < r.next
  pub within : r.next ≤ length t

abbrev pub OperatorTold : List ℕ → ℕ → Option OperatorAt → Type 0
OperatorTold t at (Some r) = OperatorRead t at r
OperatorTold t at None = by_name operator_named (parts (drop at t)) ≡ nothing

-- ---- the closing bracket, and the operator's token
pub record ClosedBy (t : List ℕ) (p : Progress) (byte : ℕ) (a b : List ℕ) (q : Progress) : Type 0 where
  pub closes : parts (drop p.at t) ≡ closing ∷ parts (drop q.at t)
  pub token : Advanced p q.at (byte ∷ []) 2 a b q
  pub on : p.at < q.at
  pub within : q.at ≤ length t

-- no closing bracket stands first, or there are too many tokens
pub record Unclosed (t : List ℕ) (p : Progress) : Type 0 where
  pub many : (x y : Expr) (ps : List Part) → closed x (parts (drop p.at t)) ≡ took y ps → max_tokens ≤ p.count

abbrev pub ClosedTold : List ℕ → Progress → ℕ → List ℕ → List ℕ → Option Progress → Type 0
ClosedTold t p byte a b (Some q) = ClosedBy t p byte a b q
ClosedTold t p byte a b None = Unclosed t p

-- ---- a whole operand as an expression of the file
pub record WholeBrought (t : List ℕ) (at : ℕ) (a : List ℕ) (to : ℕ) (b : List ℕ) (q : Whole) : Type 0 where
  pub tokens : Expr
  pub read : whole_operand (parts (drop at t)) ≡ took tokens (parts (drop q.at t))
  pub put : Put a to (expr_bytes tokens) b q.to
  pub sound : q.sound ≡ sound tokens
  pub size : q.to ≤ to + 9 * max_tokens + 1

abbrev pub WholeTold : List ℕ → ℕ → List ℕ → ℕ → List ℕ → Option Whole → Type 0
WholeTold t at a to b (Some q) = WholeBrought t at a to b q
WholeTold t at a to b None = whole_operand (parts (drop at t)) ≡ nothing
