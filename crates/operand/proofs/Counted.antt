-- A whole operand as an expression of the file: its count of tokens is written before them.
-- Assumes nothing.
use mathlib.Core.Path.{◌≡◌, refl, sym, ap, ◌∙◌}
use mathlib.Core.Bool.{Bool, cond}
use mathlib.Core.List.{List, [], ◌∷◌}
use Prim.Native.Nat.{ℕ, ◌+◌, ◌<◌, ◌≤◌}
use native.Mathlib.Omega.{arith}
use lib.Dec.{eqb}
use lib.ListN.{length, drop}
use borrow.Author.Tests.{le-leb, lt-leb}
use Rattle.rules.specs.Rules.Limits.{max_tokens}
use Rattle.rules.specs.Rules.Expressions.{Expr, held, sound}
use Rattle.rules.specs.Rules.Encoding.{tokens_bytes, expr_bytes}
use Rattle.rules.specs.Rules.Parts.{Part, parts}
use Rattle.rules.specs.Rules.TextReading.{Taken, took, nothing, and_take, counted, operand, whole_operand}
use Rattle.byte_writer.specs.Writing.{Put}
use Rattle.byte_writer.specs.Texts.{put-before}
use Rattle.operand.specs.declared.Progress.{Progress}
use Rattle.operand.specs.Operands.{Brought, Unread, WholeBrought}
use Rattle.operand.proofs.Laws.{tokens-size}

-- where the reading of an operand of its own begins
abbrev pub begun : ℕ → ℕ → Progress
begun at to = record { at = at; to = to + 1; count = 0; held = 0 }

pub whole-nothing : (ps : List Part) → Unread (operand max_tokens ps) 0 → whole_operand ps ≡ nothing
unfolding whole_operand
whole-nothing ps u = go (operand max_tokens ps) u
  where
    go : (R : Taken Expr) → Unread R 0 → and_take R (λ e. counted e) ≡ nothing
    go nothing u = refl
    go (took e qs) u =
        let many : max_tokens < 0 + length e = u.many e qs refl in
        ap (λ (t : Bool). cond t (took e qs) nothing) (lt-leb (length e) max_tokens (omega arith))

whole-took : (ps : List Part) {e : Expr} {qs : List Part} → operand max_tokens ps ≡ took e qs → length e ≤ max_tokens → whole_operand ps ≡ took e qs
unfolding whole_operand
whole-took ps {e} {qs} h l =
    ap (λ (R : Taken Expr). and_take R (λ e. counted e)) h ∙ ap (λ (t : Bool). cond t (took e qs) nothing) (le-leb (length e) max_tokens l)

expr-bytes : (e : Expr) → expr_bytes e ≡ length e ∷ tokens_bytes e
unfolding expr_bytes
expr-bytes e = refl

sound-held : (e : Expr) → sound e ≡ eqb (held 0 e) 1
unfolding sound
sound-held e = refl

pub whole-brought : (text : List ℕ) (at to : ℕ) {a b d : List ℕ} {q : Progress} {j : ℕ}
    → Brought text (operand max_tokens (parts (drop at text))) (begun at to) a b q
    → Put b to (q.count ∷ []) d j → WholeBrought text at a to d (record { at = q.at; to = q.to; sound = eqb q.held 1 })
whole-brought text at to {a} {b} {d} {q} {j} x p = record {
  tokens = x.expr;
  read = whole-took (parts (drop at text)) x.read (omega (arith, x.tokens.count, x.tokens.few));
  put = rw (expr-bytes x.expr) (ap_put (let z : q.count ≡ length x.expr = omega (arith, x.tokens.count) in z) (put-before x.tokens.put p));
  sound = ap (λ (h : ℕ). eqb h 1) x.tokens.held ∙ sym (sound-held x.expr);
  size = omega (arith, x.tokens.put.place, x.tokens.count, x.tokens.few, tokens-size x.expr);
}
  where
    ap_put : {n : ℕ} {ys : List ℕ} → q.count ≡ n → Put a to (q.count ∷ ys) d q.to → Put a to (n ∷ ys) d q.to
    ap_put e h = rw e at h
