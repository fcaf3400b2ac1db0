-- The text of an operand reads back as its tokens: of a register, a constant, a sign before an operand, and two operands in brackets.
-- Assumes nothing.
use Rattle.std.specs.Prelude.{◌≡◌, false, ℕ, zero, suc, ◌^◌, ◌<◌, ◌≤◌, length}
use Rattle.std.proofs.Math.Path.{refl, ap}
use Rattle.std.proofs.Common.{◌∙◌, arith, length-append, le-leb}
use mathlib.Core.List.{List, [], ◌∷◌, ◌++◌, append_assoc}
use Rattle.std.proofs.Math.Option.{Option, none, some}
use Rattle.location.specs.Sets.{registers}
use Rattle.rules.specs.Rules.Limits.{max_tokens}
use Rattle.rules.specs.Rules.Operators.{Op1, neg, inv, Op2, add, sub, mul, and, or, xor, shl, shr, eq, ult}
use Rattle.rules.specs.Rules.Expressions.{reg, const, op1, op2, Expr}
use Rattle.rules.specs.Rules.Answers.{text}
use Rattle.rules.specs.Rules.JobFile.{unary, binary}
use Rattle.rules.specs.Rules.Pairs.{same_words}
use Rattle.rules.specs.Rules.Listing.{decimal}
use Rattle.rules.specs.Rules.Parts.{space, opening_bracket, closing_bracket, Part, name, opening, starts_name, parts}
use Rattle.rules.specs.Rules.TextReading.{sign_name, operator_name, called, sign_named, operator_named, simple_named, Taken, took, and_take, taken}
use Rattle.rules.specs.Rules.TextReading.{by_name, closed, expression, signed, named_operand, operand_by, operand, counted}
use Rattle.rules.specs.Rules.TextReading.{whole_operand}
use Rattle.rules.specs.Rules.TextPrinting.{register_text, signed_text, bracketed_text}
use Rattle.rules.proofs.Theorems.TextParts.{Word, word-parts, space-parts, opening-parts, closing_parts, space-ends, closing_ends, sign_word}
use Rattle.rules.proofs.Theorems.TextParts.{operator-word, Unbroken, nil, more, unbroken-append, word-unbroken}
use Rattle.rules.proofs.Theorems.Decimals.{constant_no_sign, register_no_sign, constant_simple, register_simple, constant-word, register-word}

-- ---- what a text reads as
-- the operand with the tokens e, before what does not go on with a name, by a reader of that many levels or more
pub record Reads (e : Expr) (x : List ℕ) : Type 0 where
  pub each : (k : ℕ) (rest : List ℕ) → length e ≤ k → starts_name rest ≡ false → operand k (parts (x ++ rest)) ≡ took e (parts rest)
  pub whole : Unbroken x

-- one level
operand-by : (k : ℕ) (ps : List Part) → operand (suc k) ps ≡ operand_by (operand k) ps
unfolding operand
operand-by k ps = refl

simple_reads : {e : Expr} {w : List ℕ} → Word w → sign_named w ≡ none → simple_named w ≡ some e → 1 ≤ length e → Reads e w
simple_reads {e} {w} n s m l = record { each = go; whole = word-unbroken n }
  where
    named : (f : List Part → Taken Expr) (ps : List Part) → elim (sign_named w) [ some o ↦ signed f o ps | none ↦ taken (simple_named w) ps ] ≡ took e ps
    named f ps = rw (s, m)

    go : (k : ℕ) (rest : List ℕ) → length e ≤ k → starts_name rest ≡ false → operand k (parts (w ++ rest)) ≡ took e (parts rest)
    go zero rest h t = absurd (omega arith)
    go (suc k) rest h t = ap (operand (suc k)) (word-parts rest n t) ∙ operand-by k (name w ∷ parts rest) ∙ named (operand k) (parts rest)

pub register-reads : (r : ℕ) → r < registers → Reads (reg r ∷ []) (register_text r)
register-reads r h = simple_reads (register-word r) (register_no_sign r) (register_simple r h) (omega arith)

pub constant-reads : (c : ℕ) → c < 2 ^ 64 → Reads (const c ∷ []) (decimal c)
constant-reads c h = simple_reads (constant-word c h) (constant_no_sign c) (constant_simple c h) (omega arith)

-- ---- a sign before an operand
sign-named : (o : Op1) → sign_named (sign_name o) ≡ some o
unfolding sign_named called unary text same_words
sign-named neg = refl
sign-named inv = refl

sign-by : (k : ℕ) (o : Op1) (ps : List Part) → operand (suc k) (name (sign_name o) ∷ ps) ≡ and_take (operand k ps) (λ x. took (x ++ (op1 o ∷ [])))
sign-by k o ps = operand-by k (name (sign_name o) ∷ ps) ∙ go (sign-named o)
  where
    go : sign_named (sign_name o) ≡ some o
        → named_operand (operand k) (sign_name o) ps ≡ and_take (operand k ps) (λ x. took (x ++ (op1 o ∷ [])))
    go s = rw (s, named_operand) (unfold signed in refl)

pub sign_reads : {e : Expr} {x : List ℕ} (o : Op1) → Reads e x → Reads (e ++ (op1 o ∷ [])) (signed_text o x)
unfolding signed_text
sign_reads {e} {x} o r = record {
  each = go;
  whole = unbroken-append (word-unbroken (sign_word o)) (more refl r.whole);
}
  where
    go : (k : ℕ) (rest : List ℕ) → length (e ++ (op1 o ∷ [])) ≤ k → starts_name rest ≡ false
        → operand k (parts ((sign_name o ++ (space ∷ x)) ++ rest)) ≡ took (e ++ (op1 o ∷ [])) (parts rest)
    go zero rest h t = absurd (let l = length-append e (op1 o ∷ []) in omega arith)
    go (suc k) rest h t =
        let l = length-append e (op1 o ∷ []) in
        let p : parts ((sign_name o ++ (space ∷ x)) ++ rest) ≡ name (sign_name o) ∷ parts (x ++ rest) =
        ap parts (append_assoc (sign_name o) (space ∷ x) rest)
        ∙ word-parts (space ∷ x ++ rest) (sign_word o) (space-ends (x ++ rest))
        ∙ ap (λ (ps : List Part). name (sign_name o) ∷ ps) (space-parts (x ++ rest)) in
        ap (operand (suc k)) p
        ∙ sign-by k o (parts (x ++ rest))
        ∙ ap (λ (m : Taken Expr). and_take m (λ y. took (y ++ (op1 o ∷ [])))) (r.each k rest (omega arith) t)

-- ---- two operands round an operator name in brackets
operator-named : (o : Op2) → operator_named (operator_name o) ≡ some o
unfolding operator_named called binary text same_words
operator-named add = refl
operator-named sub = refl
operator-named mul = refl
operator-named and = refl
operator-named or = refl
operator-named xor = refl
operator-named shl = refl
operator-named shr = refl
operator-named eq = refl
operator-named ult = refl

module _ {e f : Expr} {x y : List ℕ} (o : Op2) (r : Reads e x) (s : Reads f y) where
  bracketed-text : (rest : List ℕ) → bracketed_text o x y ++ rest
      ≡ opening_bracket ∷ (x ++ (space ∷ (operator_name o ++ (space ∷ (y ++ (closing_bracket ∷ rest))))))
  unfolding bracketed_text
  bracketed-text rest = simp append_assoc

  bracketed_by : (k : ℕ) (rest : List ℕ) → length e ≤ k → length f ≤ k → operand (suc k) (parts (bracketed_text o x y ++ rest))
      ≡ took (e ++ (f ++ (op2 o ∷ []))) (parts rest)
  unfolding expression
  bracketed_by k rest h l =
      let last = closing_bracket ∷ rest in
      let later = operator_name o ++ (space ∷ (y ++ last)) in
      ap (λ (bs : List ℕ). operand (suc k) (parts bs)) (bracketed-text rest)
      ∙ ap (operand (suc k)) (opening-parts (x ++ (space ∷ later)))
      ∙ operand-by k (opening ∷ parts (x ++ (space ∷ later)))
      ∙ ap (λ (m : Taken Expr). and_take m after_first) (r.each k (space ∷ later) h (space-ends later))
      ∙ ap (after_first e) (space-parts later ∙ word-parts (space ∷ (y ++ last)) (operator-word o) (space-ends (y ++ last)))
      ∙ ap (λ (n : Option Op2). and_take (taken n (parts (space ∷ (y ++ last)))) after-operator) (operator-named o)
      ∙ ap (after-operator o) (space-parts (y ++ last))
      ∙ ap (λ (m : Taken Expr). and_take m (after-second o)) (s.each k last l (closing_ends rest))
      ∙ ap (after-second o f) (closing_parts rest)
    where
      after-second : Op2 → Expr → List Part → Taken Expr
      after-second p b ps = closed (e ++ (b ++ (op2 p ∷ []))) ps

      after-operator : Op2 → List Part → Taken Expr
      after-operator p ps = and_take (operand k ps) (after-second p)

      after_first : Expr → List Part → Taken Expr
      after_first a ps = and_take (by_name operator_named ps) (λ p qs. and_take (operand k qs) (λ b. closed (a ++ (b ++ (op2 p ∷ [])))))

  pub bracketed_reads : Reads (e ++ (f ++ (op2 o ∷ []))) (bracketed_text o x y)
  unfolding bracketed_text
  bracketed_reads = record { each = go; whole = unbroken }
    where
      unbroken : Unbroken (opening_bracket ∷ (x ++ (space ∷ (operator_name o ++ (space ∷ (y ++ (closing_bracket ∷ [])))))))
      unbroken =
          more refl (unbroken-append r.whole (more refl (unbroken-append (word-unbroken (operator-word o))
          (more refl (unbroken-append s.whole (more refl nil))))))

      go : (k : ℕ) (rest : List ℕ) → length (e ++ (f ++ (op2 o ∷ []))) ≤ k → starts_name rest ≡ false
          → operand k (parts (bracketed_text o x y ++ rest)) ≡ took (e ++ (f ++ (op2 o ∷ []))) (parts rest)
      go zero rest h t = absurd (let l = length-append e (f ++ (op2 o ∷ [])) in let m = length-append f (op2 o ∷ []) in omega arith)
      go (suc k) rest h t =
          let l = length-append e (f ++ (op2 o ∷ [])) in
          let m = length-append f (op2 o ∷ []) in
          bracketed_by k rest (omega arith) (omega arith)

-- "An expression is a byte with its token count, 1 to 16"
pub operand-reads : {e : Expr} {x : List ℕ} → Reads e x → length e ≤ max_tokens → (rest : List ℕ) → starts_name rest ≡ false
    → whole_operand (parts (x ++ rest)) ≡ took e (parts rest)
unfolding whole_operand
operand-reads {e} r h rest t =
    ap (λ (m : Taken Expr). and_take m counted) (r.each max_tokens rest h t) ∙ rw (le-leb (length e) max_tokens h)
