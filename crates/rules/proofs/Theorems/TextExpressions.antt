-- The text of an expression that keeps the postfix rule reads back as the expression: of every text on the printer's stack it is known
-- which tokens it stands for.
-- Assumes nothing.
use Rattle.std.specs.Prelude.{◌≡◌, true, List, [], ◌∷◌, ◌++◌, ℕ, suc, length}
use Rattle.std.proofs.Common.{append_assoc, append-nil, arith, eqb-true}
use Rattle.rules.specs.Rules.Expressions.{Token, reg, const, op1, op2, Expr, held, sound}
use Rattle.rules.specs.Rules.TextPrinting.{text_pushed, text_on, top_text, expr_text}
use Rattle.rules.proofs.Theorems.Postfix.{held-takes, held_after}
use Rattle.rules.proofs.Theorems.Encodable.{TokensFit, nil, more}
use Rattle.rules.proofs.Theorems.TextOperands.{Reads, register-reads, constant-reads, sign_reads, bracketed_reads}

-- ---- the stack of texts beside one of expressions, the top first
data Stacks : List Expr → List (List ℕ) → Type 0 where
  empty : Stacks [] []
  push : {e : Expr} {x : List ℕ} {es : List Expr} {st : List (List ℕ)} → Reads e x → Stacks es st → Stacks (e ∷ es) (x ∷ st)

-- the tokens of a stack of expressions, the top last
unfoldable tokens_on : List Expr → Expr
tokens_on [] = []
tokens_on (e ∷ es) = tokens_on es ++ e

-- what is taken from the stack goes back to it with the token after it
unary-tokens : (b e : Expr) (t : Token) (ts : Expr) → (b ++ (e ++ (t ∷ []))) ++ ts ≡ (b ++ e) ++ (t ∷ ts)
unary-tokens b e t ts = simp append_assoc

binary-tokens : (b e f : Expr) (t : Token) (ts : Expr) → (b ++ (e ++ (f ++ (t ∷ [])))) ++ ts ≡ ((b ++ e) ++ f) ++ (t ∷ ts)
binary-tokens b e f t ts = simp append_assoc

-- the tokens after a stack: in the end one text stands for them all
end_reads : (ts : Expr) {es : List Expr} {st : List (List ℕ)} → Stacks es st → TokensFit ts → held (length es) ts ≡ 1
    → Reads (tokens_on es ++ ts) (top_text (text_on ts st))
unfolding held text_on top_text text_pushed tokens_on
end_reads [] empty nil h = absurd (omega arith)
end_reads [] (push {e = e} r empty) nil h = rw (append-nil e) r
end_reads [] (push r (push q s)) nil h = absurd (omega arith)
end_reads (reg r ∷ ts) {es} s (more f fs) h =
    rw (append_assoc (tokens_on es) (reg r ∷ []) ts)
    at (end_reads ts (push (register-reads r f) s) fs (held_after (length es) (suc (length es)) (reg r) ts h (omega arith)))
end_reads (const c ∷ ts) {es} s (more f fs) h =
    rw (append_assoc (tokens_on es) (const c ∷ []) ts)
    at (end_reads ts (push (constant-reads c f) s) fs (held_after (length es) (suc (length es)) (const c) ts h (omega arith)))
end_reads (op1 o ∷ ts) empty (more f fs) h = absurd (let l = held-takes 0 (op1 o) ts h in omega arith)
end_reads (op1 o ∷ ts) (push {e = e} {es = es} r s) (more f fs) h =
    rw (unary-tokens (tokens_on es) e (op1 o) ts)
    at (end_reads ts (push (sign_reads o r) s) fs (held_after (suc (length es)) (suc (length es)) (op1 o) ts h (omega arith)))
end_reads (op2 o ∷ ts) empty (more f fs) h = absurd (let l = held-takes 0 (op2 o) ts h in omega arith)
end_reads (op2 o ∷ ts) (push r empty) (more f fs) h = absurd (let l = held-takes 1 (op2 o) ts h in omega arith)
end_reads (op2 o ∷ ts) (push {e = e'} r (push {e = e} {es = es} q s)) (more f fs) h =
    rw (binary-tokens (tokens_on es) e e' (op2 o) ts)
    at (end_reads ts (push (bracketed_reads o q r) s) fs (held_after (suc (suc (length es))) (suc (length es)) (op2 o) ts h (omega arith)))

-- an expression that keeps the rule
pub expression-reads : (e : Expr) → TokensFit e → sound e ≡ true → Reads e (expr_text e)
unfolding sound expr_text tokens_on
expression-reads e f s = end_reads e empty f (eqb-true (held 0 e) 1 s)
