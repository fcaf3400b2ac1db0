-- Expressions in postfix: the rule that they keep, their value with the set of locations that it rests on, and that set ahead of the value.
-- Assumes nothing.
use Rattle.std.specs.Prelude.{◌≡◌, Bool, true, ◌&&◌, cond, List, [], ◌∷◌, ℕ, ◌+◌, ◌-◌, eqb, leb}
use Rattle.location.specs.declared.LocationSet.{LocationSet}
use Rattle.location.specs.Sets.{empty, union}
use Rattle.rules.specs.declared.Tagged.{Tagged}
use Rattle.rules.specs.Rules.Operators.{Op1, Op2, apply1, apply2}

-- "Expressions are in postfix, one byte a token: 0 to 15 a register; 16 a constant"; then the operators
pub data Token : Type 0 where
  reg : ℕ → Token
  const : ℕ → Token
  op1 : Op1 → Token
  op2 : Op2 → Token

abbrev pub Expr : Type 0
Expr = List Token

-- ---- the postfix rule: "It must never lack an operand, never hold more than 8 values, and end with one."
-- how many operands a token takes
abbrev pub takes : Token → ℕ
takes (reg r) = 0
takes (const c) = 0
takes (op1 o) = 1
takes (op2 o) = 2

-- The values held after a token that takes k, where d are held before it. 9 marks the rule as broken, for good.
unfoldable pub after : ℕ → ℕ → ℕ
after d k = cond (leb d 8 && leb k d && leb (d - k) 7) (d - k + 1) 9

unfoldable pub held : ℕ → Expr → ℕ
held d [] = d
held d (t ∷ ts) = held (after d (takes t)) ts

unfoldable pub sound : Expr → Bool
sound e = eqb (held 0 e) 1

-- ---- the value of an expression with its set
abbrev pub tagged : ℕ → LocationSet → Tagged
tagged v s = record { value = v; deps = s }

-- "A constant has the empty set; an operator's result has the union of its operands' sets."
abbrev pub result1 : Op1 → Tagged → Tagged
result1 o a = tagged (apply1 o a.value) a.deps

abbrev pub result2 : Op2 → Tagged → Tagged → Tagged
result2 o a b = tagged (apply2 o a.value b.value) (union a.deps b.deps)

-- One token over a stack whose top comes first; `at` gives the registers. Where an operand lacks nothing is left: no job that
-- is accepted comes to that.
unfoldable pub pushed : (ℕ → Tagged) → Token → List Tagged → List Tagged
pushed at (reg r) st = at r ∷ st
pushed at (const c) st = tagged c empty ∷ st
pushed at (op1 o) [] = []
pushed at (op1 o) (a ∷ st) = result1 o a ∷ st
pushed at (op2 o) [] = []
pushed at (op2 o) (b ∷ []) = []
pushed at (op2 o) (b ∷ a ∷ st) = result2 o a b ∷ st

unfoldable pub eval_on : (ℕ → Tagged) → Expr → List Tagged → List Tagged
eval_on at [] st = st
eval_on at (t ∷ ts) st = eval_on at ts (pushed at t st)

unfoldable pub top : List Tagged → Tagged
top [] = tagged 0 empty
top (a ∷ st) = a

unfoldable pub eval : (ℕ → Tagged) → Expr → Tagged
eval at e = top (eval_on at e [])

-- ---- the set of an expression, ahead of its value. Document 02, F-5: "Gather the set of an expression in one pass over its tokens,
-- from the registers' sets alone, ahead of its value." `sets` gives the registers' sets: there is no value to look at.
unfoldable pub gathered : (ℕ → LocationSet) → Token → LocationSet → LocationSet
gathered sets (reg r) s = union s (sets r)
gathered sets (const c) s = s
gathered sets (op1 o) s = s
gathered sets (op2 o) s = s

unfoldable pub set_on : (ℕ → LocationSet) → Expr → LocationSet → LocationSet
set_on sets [] s = s
set_on sets (t ∷ ts) s = set_on sets ts (gathered sets t s)

unfoldable pub expr_set : (ℕ → LocationSet) → Expr → LocationSet
expr_set sets e = set_on sets e empty

-- What is promised of a set s that was gathered so: "Whatever the registers hold, it is the set document 01 gives."
pub record SetFirst (sets : ℕ → LocationSet) (e : Expr) (s : LocationSet) : Type 0 where
  pub exact : s ≡ expr_set sets e
  pub whatever : sound e ≡ true → (values : ℕ → ℕ) → s ≡ (eval (λ r. tagged (values r) (sets r)) e).deps
