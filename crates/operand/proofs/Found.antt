-- The names of registers and constants, as the rules' readers of operands meet them.
-- Assumes nothing.
use mathlib.Core.Path.{◌≡◌, refl, sym, ap, subst, ◌∙◌}
use mathlib.Core.List.{List, [], ◌∷◌}
use mathlib.Core.Option as rules
use mathlib.Core.Option.{some, none}
use Prim.Native.Nat.{ℕ}
use native.Mathlib.Omega.{arith}
use lib.ListN.{drop}
use Rattle.std.proofs.Common.{Option, Some, None}
use Rattle.rules.specs.Rules.Expressions.{Token, reg, const, Expr, takes}
use Rattle.rules.specs.Rules.Encoding.{token_bytes}
use Rattle.rules.specs.Rules.Parts.{parts, segment}
use Rattle.rules.specs.Rules.TextReading.{register_named, constant_named, simple_named, taken}
use Rattle.names.specs.Meaning.{number_of, register_byte}
use Rattle.names.proofs.Given.{given-some, given-none}
use Rattle.operand.specs.declared.Progress.{Progress}
use Rattle.operand.specs.Operands.{NameAt, TokenPut, OperandTold}
use Rattle.operand.proofs.Laws.{nothing-unread, leaf_read, leaf_many}

-- as the rules name it, by what the name is
abbrev simple_of : rules.Option ℕ → rules.Option ℕ → rules.Option Expr
simple_of r c = elim r [ some q ↦ some (reg q ∷ []) | none ↦ elim c [ some v ↦ some (const v ∷ []) | none ↦ none ] ]

simple-of : (w : List ℕ) → simple_named w ≡ simple_of (register_named w) (constant_named w)
unfolding simple_named
simple-of w = refl

simple_register : (w : List ℕ) {r : ℕ} → register_named w ≡ some r → simple_named w ≡ some (reg r ∷ [])
simple_register w e = simple-of w ∙ ap (λ (o : rules.Option ℕ). simple_of o (constant_named w)) e

simple_constant : (w : List ℕ) {v : ℕ} → register_named w ≡ none → constant_named w ≡ some v → simple_named w ≡ some (const v ∷ [])
simple_constant w e f = simple-of w ∙ ap (λ (o : rules.Option ℕ). simple_of o (constant_named w)) e ∙ ap (simple_of none) f

simple_none : (w : List ℕ) → register_named w ≡ none → constant_named w ≡ none → simple_named w ≡ none
simple_none w e f = simple-of w ∙ ap (λ (o : rules.Option ℕ). simple_of o (constant_named w)) e ∙ ap (simple_of none) f

module _ (text : List ℕ) (p : Progress) (s f : ℕ) (place : NameAt text p.at s f) (a b : List ℕ) where
  abbrev word : List ℕ
  word = segment text s f

  abbrev SimpleTold : Option Progress → Type 0
  SimpleTold x = OperandTold text (taken (simple_named word) (parts (drop f text))) p a b x

  leaf_told : (t : Token) (x : Option Progress) → simple_named word ≡ some (t ∷ []) → TokenPut p f (token_bytes t) (takes t) a b x → SimpleTold x
  leaf_told t (Some q) e h =
      leaf_read text p t f (ap (λ (o : rules.Option Expr). taken o (parts (drop f text))) e) (omega (arith, place.after, place.long)) place.within h
  leaf_told t None e h = leaf_many text p t f (ap (λ (o : rules.Option Expr). taken o (parts (drop f text))) e) h

  pub register-told : {r : ℕ} (x : Option Progress) → Some r ≡ register_byte (register_named word) → TokenPut p f (r ∷ []) 0 a b x → SimpleTold x
  register-told {r} x e t =
      let i = given-some (λ n. n) (register_named word) e in
      leaf_told (reg r) x (simple_register word (i.named ∙ ap (λ (n : ℕ). some n) (sym i.is))) t

  module _ (no_register : None ≡ register_byte (register_named word)) where
    pub constant-told : {v : ℕ} (x : Option Progress) → Some v ≡ number_of (constant_named word) → TokenPut p f (token_bytes (const v)) 0 a b x → SimpleTold x
    constant-told {v} x e t =
        let i = given-some (λ n. n) (constant_named word) e in
        leaf_told (const v) x
        (simple_constant word (given-none (λ n. n) (register_named word) no_register) (i.named ∙ ap (λ (n : ℕ). some n) (sym i.is))) t

    pub simple_unread : None ≡ number_of (constant_named word) → {x : Option Progress} → x ≡ None → SimpleTold x
    simple_unread e {x} is =
        subst SimpleTold (sym is) (nothing-unread p.count (ap (λ (o : rules.Option Expr). taken o (parts (drop f text)))
        (simple_none word (given-none (λ n. n) (register_named word) no_register) (given-none (λ n. n) (constant_named word) e))))
