-- The loop over the tokens that gathers the set: what it keeps from one token to the next.
-- Assumes nothing.
use mathlib.Core.Path.{◌≡◌, refl, ap}
use mathlib.Core.Logic.{◌≢◌}
use mathlib.Core.Bool.{Bool, true, false}
use mathlib.Core.List.{List, [], ◌∷◌}
use Prim.Native.Nat.{ℕ, suc, ◌+◌, ◌-◌, ◌≤◌, ◌<◌}
use lib.Dec.{eqb, ltb}
use lib.ListN.{get_or}
use borrow.Author.Tests.{ltb-true, ltb-false}
use Rattle.location.specs.declared.LocationSet.{LocationSet}
use Rattle.location.specs.Sets.{empty, union}
use Rattle.rules.specs.Rules.Operators.{neg, add}
use Rattle.rules.specs.Rules.Expressions.{Token, reg, const, op1, op2, Expr, held, sound, gathered, set_on, expr_set}
use Rattle.rules.specs.Rules.JobFile.{Read, got, refused, and_then, little, unary, binary, token, tokens}
use Rattle.rules.specs.Theorems.Readers.{readable, value_or, unread}
use Rattle.token.specs.declared.Expression.{Expression}
use Rattle.token.specs.Meaning.{tokens_of}
use Rattle.token.specs.Readable.{register-read, constant-read, unary_read, operator-read, tokens-read}

-- k tokens are left at an offset; with the set s gathered before them, that of all is v
pub record SetLeft (sets : ℕ → LocationSet) (p : List ℕ) (v : LocationSet) (k at : ℕ) (s : LocationSet) : Type 0 where
  pub readable-all : readable (tokens k p at) ≡ true
  pub gives : set_on sets (value_or [] (tokens k p at)) s ≡ v

pub set-start : (sets : ℕ → LocationSet) (p : List ℕ) (e : Expression) (s : LocationSet) → readable (tokens e.count p e.at) ≡ true
    → s ≡ empty → SetLeft sets p (expr_set sets (tokens_of p e)) e.count e.at s
unfolding expr_set tokens_of
set-start sets p e s h z = record { readable-all = h; gives = ap (set_on sets (tokens_of p e)) z }

-- an expression that keeps the postfix rule has been read
pub sound-readable : (p : List ℕ) (e : Expression) → sound (tokens_of p e) ≡ true → readable (tokens e.count p e.at) ≡ true
unfolding sound held tokens_of readable
sound-readable p e h = go (tokens e.count p e.at) h
  where
    go : (R : Read Expr) → eqb (held 0 (value_or [] R)) 1 ≡ true → readable R ≡ true
    go (got ts q) h = refl
    go (refused r) h = h

module _ {sets : ℕ → LocationSet} {p : List ℕ} {v : LocationSet} {k at : ℕ} {s : LocationSet} (left : SetLeft sets p v (suc k) at s) where
  -- where a token is left, it can be read
  pub token-readable : readable (token p at) ≡ true
  token-readable = (tokens-read k p at left.readable-all).0

  -- after the token t, which is followed at offset q
  set_turn : (q : ℕ) (t : Token) → token p at ≡ got t q → SetLeft sets p v k q (gathered sets t s)
  unfolding tokens set_on readable
  set_turn q t e = go (tokens k p q) refl (rw e at left.readable-all) (rw e at left.gives)
    where
      go : (R : Read Expr) → tokens k p q ≡ R → readable (and_then R (λ ts q'. got (t ∷ ts) q')) ≡ true
          → set_on sets (value_or [] (and_then R (λ ts q'. got (t ∷ ts) q'))) s ≡ v → SetLeft sets p v k q (gathered sets t s)
      go (got ts q') r h g = record { readable-all = rw r refl; gives = rw r g }
      go (refused w) r h g = unread h

  -- what each arm leaves, over the other tokens, which begin at offset q
  pub register-gathers : get_or p at 0 < 16 → (q : ℕ) (s' : LocationSet) → q ≡ at + 1 → s' ≡ union s (sets (get_or p at 0)) → SetLeft sets p v k q s'
  unfolding gathered
  register-gathers l q s' eq es = rw (eq, es) (set_turn (at + 1) (reg (get_or p at 0)) (register-read p at token-readable l))

  pub constant-gathers : get_or p at 0 ≡ 16 → (q : ℕ) → q ≡ at + 1 + 8 → SetLeft sets p v k q s
  unfolding gathered
  constant-gathers b q eq = rw eq (set_turn (at + 1 + 8) (const (little p (at + 1) 8)) (constant-read p at token-readable b).1)

  pub operator-gathers : 16 ≤ get_or p at 0 → get_or p at 0 ≢ 16 → (q : ℕ) → q ≡ at + 1 → SetLeft sets p v k q s
  unfolding gathered
  operator-gathers l ne q eq = rw eq (go (ltb (get_or p at 0) 19) refl)
    where
      go : (b : Bool) → ltb (get_or p at 0) 19 ≡ b → SetLeft sets p v k (at + 1) s
      go true t = set_turn (at + 1) (op1 (get_or unary (get_or p at 0 - 17) neg)) (unary_read p at token-readable l ne (ltb-true _ 19 t))
      go false t = set_turn (at + 1) (op2 (get_or binary (get_or p at 0 - 19) add)) (operator-read p at token-readable (ltb-false _ 19 t))

pub set-finish : (sets : ℕ → LocationSet) (p : List ℕ) (v : LocationSet) (at : ℕ) (s : LocationSet) → SetLeft sets p v 0 at s → s ≡ v
unfolding tokens set_on
set-finish sets p v at s left = left.gives
