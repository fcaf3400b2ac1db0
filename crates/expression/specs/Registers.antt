-- The registers that occur in tokens: those that the rules read are below 16, and a value rests on no other register.
-- Assumes nothing.
use Rattle.std.specs.Prelude.{◌≡◌, Bool, true, false, cond, ℕ, zero, suc, ◌-◌, ◌<◌, eqb, ltb, get_or}
use Rattle.std.proofs.Math.Path.{refl, ap}
use Rattle.std.proofs.Common.{◌∙◌, ltb-true}
use mathlib.Core.List.{List, [], ◌∷◌}
use Rattle.location.specs.Sets.{registers}
use Rattle.rules.specs.declared.Refusal.TheVariants as refusals
use Rattle.rules.specs.declared.Tagged.{Tagged}
use Rattle.rules.specs.Rules.Operators.{neg, add}
use Rattle.rules.specs.Rules.Expressions.{Token, reg, const, op1, op2, Expr, pushed, eval_on, top, eval}
use Rattle.rules.specs.Rules.JobFile.{got, and_then, return, refuse, byte, unary, binary, word_of, constant, token_of, token, tokens}
use Rattle.rules.specs.Theorems.Readers.{Holds, then, always, holds-value}
use Rattle.token.specs.declared.Expression.{Expression}
use Rattle.token.specs.Meaning.{tokens_of}

-- the register of a token, if it names one, is below n
abbrev pub TokenBelow : ℕ → Token → Type 0
TokenBelow n (reg r) = r < n
TokenBelow n (const c) = Unit
TokenBelow n (op1 o) = Unit
TokenBelow n (op2 o) = Unit

-- every register that occurs in the tokens is below n
abbrev pub Below : ℕ → Expr → Type 0
Below n [] = Unit
Below n (t ∷ ts) = TokenBelow n t × Below n ts

-- ---- what the rules read
constant-holds : (p : List ℕ) (at : ℕ) → Holds (TokenBelow registers) (constant p at)
unfolding constant
constant-holds p at = then (λ c. Unit) (TokenBelow registers) (word_of 8 p at) (λ c q. got (const c) q) (always (word_of 8 p at)) (λ c q h. tt)

token_of-holds : (t : ℕ) (p : List ℕ) (at : ℕ) → Holds (TokenBelow registers) (token_of t p at)
unfolding token_of
token_of-holds t p at = go (ltb t 16) refl (eqb t 16) (ltb t 19) (ltb t 29)
  where
    go : (a : Bool) → ltb t 16 ≡ a → (b c d : Bool)
        → Holds (TokenBelow registers)
        (cond a (return (reg t))
        (cond b constant
        (cond c (return (op1 (get_or unary (t - 17) neg))) (cond d (return (op2 (get_or binary (t - 19) add))) (refuse refusals.Encoding)))) p at)
    go true e b c d = ltb-true t 16 e
    go false e true c d = constant-holds p at
    go false e false true d = tt
    go false e false false true = tt
    go false e false false false = tt

token-holds : (p : List ℕ) (at : ℕ) → Holds (TokenBelow registers) (token p at)
unfolding token
token-holds p at =
    then (λ t. Unit) (TokenBelow registers) (byte p at) (λ t q. token_of t p q) (always (byte p at)) (λ t q h. token_of-holds t p q)

tokens-hold : (k : ℕ) (p : List ℕ) (at : ℕ) → Holds (Below registers) (tokens k p at)
unfolding tokens
tokens-hold zero p at = tt
tokens-hold (suc k) p at =
    then (TokenBelow registers) (Below registers) (token p at) (λ t q. and_then (tokens k p q) (λ ts q'. got (t ∷ ts) q')) (token-holds p at)
    (λ t q h. then (Below registers) (Below registers) (tokens k p q) (λ ts q'. got (t ∷ ts) q') (tokens-hold k p q) (λ ts q' hs. (h, hs)))

-- ---- the registers that the rules read are below 16
pub expression-below : (p : List ℕ) (e : Expression) → Below registers (tokens_of p e)
unfolding tokens_of
expression-below p e = holds-value (Below registers) [] (tokens e.count p e.at) tt (tokens-hold e.count p e.at)

-- ---- a value rests on the registers that occur
module _ (n : ℕ) (f g : ℕ → Tagged) (agree : (r : ℕ) → r < n → f r ≡ g r) where
  pushed_agree : (t : Token) (st : List Tagged) → TokenBelow n t → pushed f t st ≡ pushed g t st
  unfolding pushed
  pushed_agree (reg r) st h = ap (λ (a : Tagged). a ∷ st) (agree r h)
  pushed_agree (const c) st h = refl
  pushed_agree (op1 o) [] h = refl
  pushed_agree (op1 o) (a ∷ st) h = refl
  pushed_agree (op2 o) [] h = refl
  pushed_agree (op2 o) (b ∷ []) h = refl
  pushed_agree (op2 o) (b ∷ a ∷ st) h = refl

  eval-on_agree : (ts : Expr) (st : List Tagged) → Below n ts → eval_on f ts st ≡ eval_on g ts st
  unfolding eval_on
  eval-on_agree [] st h = refl
  eval-on_agree (t ∷ ts) st h = ap (eval_on f ts) (pushed_agree t st h.0) ∙ eval-on_agree ts (pushed g t st) h.1

  pub eval_agree : (ts : Expr) → Below n ts → eval f ts ≡ eval g ts
  unfolding eval
  eval_agree ts h = ap top (eval-on_agree ts [] h)

-- the value of an expression of the bytes rests on 16 registers
pub expression_agree : (f g : ℕ → Tagged) (p : List ℕ) (e : Expression) → ((r : ℕ) → r < registers → f r ≡ g r)
    → eval f (tokens_of p e) ≡ eval g (tokens_of p e)
expression_agree f g p e h = eval_agree registers f g h (tokens_of p e) (expression-below p e)
