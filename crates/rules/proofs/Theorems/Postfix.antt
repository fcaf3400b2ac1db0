-- The postfix rule, token by token: an expression that keeps it never lacks an operand.
-- Assumes nothing.
use Rattle.std.specs.Prelude.{◌≡◌, refl, Bool, true, false, ◌&&◌, cond, [], ◌∷◌, ℕ, ◌+◌, ◌-◌, ◌≤◌, leb}
use Rattle.std.proofs.Common.{arith, leb-true}
use Rattle.location.specs.SetLaws.{and_left, and_right}
use Rattle.rules.specs.Rules.Expressions.{Token, Expr, takes, after, held}

-- 9 marks the rule as broken, for good
broken : (ts : Expr) → held 9 ts ≡ 9
unfolding held after
broken [] = refl
broken (t ∷ ts) = broken ts

-- a token that leaves the rule unbroken has its operands, and leaves a slot free
pub after_holds : (d k : ℕ) (ts : Expr) → held (after d k) ts ≡ 1 → (d ≤ 8) × (k ≤ d) × (d - k ≤ 7) × (held (d - k + 1) ts ≡ 1)
unfolding after
after_holds d k ts = go (leb d 8 && leb k d && leb (d - k) 7) refl
  where
    go : (b : Bool) → (leb d 8 && leb k d && leb (d - k) 7) ≡ b → held (cond b (d - k + 1) 9) ts ≡ 1
        → (d ≤ 8) × (k ≤ d) × (d - k ≤ 7) × (held (d - k + 1) ts ≡ 1)
    go true e h =
        let f = and_left (leb d 8 && leb k d) (leb (d - k) 7) e in (
          leb-true d 8 (and_left (leb d 8) (leb k d) f),
          leb-true k d (and_right (leb d 8) (leb k d) f),
          leb-true (d - k) 7 (and_right (leb d 8 && leb k d) (leb (d - k) 7) e),
          h,
        )
    go false e h = absurd (let z = broken ts in omega arith)

-- the operands of the first token are held before it
pub held-takes : (d : ℕ) (t : Token) (ts : Expr) → held d (t ∷ ts) ≡ 1 → takes t ≤ d
unfolding held
held-takes d t ts h = (after_holds d (takes t) ts h).1

-- n values are held after the first token
pub held_after : (d n : ℕ) (t : Token) (ts : Expr) → held d (t ∷ ts) ≡ 1 → n + takes t ≡ d + 1 → held n ts ≡ 1
unfolding held
held_after d n t ts h e =
    let a = after_holds d (takes t) ts h in
    let m : n ≡ d - takes t + 1 = omega (arith, a.1) in
    rw m a.3
