-- The loop over the tokens that gives the value: what it keeps from one token to the next.
-- Assumes nothing.
use mathlib.Core.Path.{◌≡◌, refl, ap, ap₂, ◌∙◌}
use mathlib.Core.Logic.{◌≢◌}
use mathlib.Core.List.{List, [], ◌∷◌}
use mathlib.Core.Bool.{true}
use Prim.Native.Nat.{ℕ, zero, suc, ◌+◌, ◌-◌, ◌≤◌, ◌<◌}
use native.Mathlib.Omega.{arith}
use lib.Dec.{eqb}
use lib.ListN.{length, get_or, set, length-set}
use lib.Seq.{get_or-set_same, get_or-set_other}
use borrow.Author.Tests.{eqb-true}
use Rattle.location.specs.Sets.{empty}
use Rattle.rules.specs.declared.Tagged.{Tagged}
use Rattle.rules.specs.Rules.Operators.{Op1, neg, Op2, add, apply1, apply2}
use Rattle.rules.specs.Rules.Expressions.{Token, reg, const, op1, op2, Expr, takes, held, sound, tagged, pushed, eval_on, top, eval}
use Rattle.rules.specs.Rules.JobFile.{Read, got, refused, and_then, little, unary, binary, token, tokens}
use Rattle.rules.specs.Theorems.Readers.{readable, value_or}
use Rattle.rules.proofs.Theorems.Postfix.{after_holds}
use Rattle.token.specs.declared.Expression.{Expression}
use Rattle.token.specs.Meaning.{tokens_of}
use Rattle.token.specs.Readable.{register-read, constant-read, unary_read, operator-read}

-- ---- the stack of the code: its top in a variable, the values below it in the slots
-- the d values below the top stand in the slots from 1 on, the last of them in slot d; the rules' stack has its top first
abbrev SlotsHold : List ℕ → ℕ → List Tagged → Type 0
SlotsHold vs zero [] = Unit
SlotsHold vs zero (a ∷ st) = ⊥
SlotsHold vs (suc d) [] = ⊥
SlotsHold vs (suc d) (a ∷ st) = (get_or vs (suc d) 0 ≡ a.value) × SlotsHold vs d st

-- d values are held, with x on top
abbrev pub StackHolds : List ℕ → ℕ → ℕ → List Tagged → Type 0
StackHolds vs x zero [] = Unit
StackHolds vs x zero (a ∷ st) = ⊥
StackHolds vs x (suc d) [] = ⊥
StackHolds vs x (suc d) (a ∷ st) = (x ≡ a.value) × SlotsHold vs d st

slots_set : (vs : List ℕ) (j d x : ℕ) (st : List Tagged) → d < j → SlotsHold vs d st → SlotsHold (set vs j x) d st
slots_set vs j zero x [] l h = tt
slots_set vs j zero x (a ∷ st) l h = absurd h
slots_set vs j (suc d) x [] l h = absurd h
slots_set vs j (suc d) x (a ∷ st) l h =
    let ne : suc d ≢ j = omega arith in
    (get_or-set_other vs j (suc d) x 0 ne ∙ h.0, slots_set vs j d x st (omega arith) h.1)

-- the top goes to the next slot, and another value comes on top
push-holds : (vs : List ℕ) (d x y : ℕ) (b : Tagged) (st : List Tagged) → d < length vs → y ≡ b.value → StackHolds vs x d st
    → StackHolds (set vs d x) y (suc d) (b ∷ st)
push-holds vs zero x y b [] l e h = (e, tt)
push-holds vs zero x y b (a ∷ st) l e h = absurd h
push-holds vs (suc d) x y b [] l e h = absurd h
push-holds vs (suc d) x y b (a ∷ st) l e h =
    (e, (get_or-set_same vs (suc d) x 0 l ∙ h.0, slots_set vs (suc d) d x st (omega arith) h.1))

unary-holds : (f : ℕ → Tagged) (o : Op1) (vs : List ℕ) (x d : ℕ) (st : List Tagged) → 1 ≤ d → StackHolds vs x d st
    → StackHolds vs (apply1 o x) d (pushed f (op1 o) st)
unfolding pushed
unary-holds f o vs x zero st l h = absurd (omega arith)
unary-holds f o vs x (suc d) [] l h = absurd h
unary-holds f o vs x (suc d) (b ∷ st) l h = (ap (apply1 o) h.0, h.1)

binary-holds : (f : ℕ → Tagged) (o : Op2) (vs : List ℕ) (x d : ℕ) (st : List Tagged) → 1 ≤ d → StackHolds vs x (suc d) st
    → StackHolds vs (apply2 o (get_or vs d 0) x) d (pushed f (op2 o) st)
unfolding pushed
binary-holds f o vs x zero st l h = absurd (omega arith)
binary-holds f o vs x (suc d) [] l h = absurd h
binary-holds f o vs x (suc d) (b ∷ []) l h = absurd h.1
binary-holds f o vs x (suc d) (b ∷ c ∷ st) l h = (ap₂ (apply2 o) h.1.0 h.0, h.1.1)

-- ---- the postfix rule, token by token
-- tokens that were read, and keep the postfix rule where d values are held before them
abbrev pub Keeps : ℕ → Read Expr → Type 0
Keeps d (got ts q) = held d ts ≡ 1
Keeps d (refused r) = ⊥

-- ---- the loop: k tokens are left at an offset, n values are held with x on top of them, and the value of all is v
pub record Left (f : ℕ → Tagged) (p : List ℕ) (v k at n x : ℕ) (vs : List ℕ) : Type 0 where
  pub slots : length vs ≡ 8
  pub keeps : Keeps n (tokens k p at)
  pub stack : List Tagged
  pub holds : StackHolds vs x n stack
  pub gives : (top (eval_on f (value_or [] (tokens k p at)) stack)).value ≡ v

pub start : (f : ℕ → Tagged) (p : List ℕ) (e : Expression) (x : ℕ) (vs : List ℕ) → length vs ≡ 8 → sound (tokens_of p e) ≡ true
    → Left f p (eval f (tokens_of p e)).value e.count e.at 0 x vs
unfolding sound held eval tokens_of
start f p e x vs n h = record {
  slots = n;
  keeps = go (tokens e.count p e.at) h;
  stack = [];
  holds = tt;
  gives = refl;
}
  where
    go : (R : Read Expr) → eqb (held 0 (value_or [] R)) 1 ≡ true → Keeps 0 R
    go (got ts q) h = eqb-true _ 1 h
    go (refused r) h = let z : ◌≡◌ {A = ℕ} 0 1 = cc in omega arith

-- the next token t, which is followed at offset q: its operands are held, and the other tokens follow where the code has done its push
record Turn (f : ℕ → Tagged) (p : List ℕ) (v k q d : ℕ) (st : List Tagged) (t : Token) : Type 0 where
  pub most : d ≤ 8
  pub enough : takes t ≤ d
  pub room : d - takes t ≤ 7
  pub again : (n x : ℕ) (vs : List ℕ) → n ≡ d - takes t + 1 → length vs ≡ 8 → StackHolds vs x n (pushed f t st) → Left f p v k q n x vs

module _ {f : ℕ → Tagged} {p : List ℕ} {v k at n x : ℕ} {vs : List ℕ} (left : Left f p v (suc k) at n x vs) where
  -- where a token is left, it can be read
  pub left-readable : readable (token p at) ≡ true
  unfolding tokens readable
  left-readable = go (token p at) left.keeps
    where
      go : (R : Read Token) → Keeps n (and_then R (λ t q. and_then (tokens k p q) (λ ts q'. got (t ∷ ts) q'))) → readable R ≡ true
      go (got t q) h = refl
      go (refused r) h = absurd h

  -- the token that was read, with what it finds
  turn : (q : ℕ) (t : Token) → token p at ≡ got t q → Turn f p v k q n left.stack t
  unfolding tokens held eval_on
  turn q t e = go (tokens k p q) refl (rw e at left.keeps) (rw e at left.gives)
    where
      go : (R : Read Expr) → tokens k p q ≡ R → Keeps n (and_then R (λ ts q'. got (t ∷ ts) q'))
          → (top (eval_on f (value_or [] (and_then R (λ ts q'. got (t ∷ ts) q'))) left.stack)).value ≡ v → Turn f p v k q n left.stack t
      go (got ts q') r h g =
          let a = after_holds n (takes t) ts h in
          record {
            most = a.0;
            enough = a.1;
            room = a.2;
            again = λ n' x' vs' e' l st. record {
              slots = l;
              keeps = rw (r, e') a.3;
              stack = pushed f t left.stack;
              holds = st;
              gives = rw r g;
            };
          }
      go (refused w) r h g = absurd h

  -- a token that takes no operand finds a free slot
  pub register-room : get_or p at 0 < 16 → n ≤ 7
  register-room l = let r = (turn (at + 1) (reg (get_or p at 0)) (register-read p at left-readable l)).room in omega arith

  pub constant-room : get_or p at 0 ≡ 16 → n ≤ 7
  constant-room b = let r = (turn (at + 1 + 8) (const (little p (at + 1) 8)) (constant-read p at left-readable b).1).room in omega arith

  -- one that takes two finds them
  pub operator-room : 19 ≤ get_or p at 0 → (2 ≤ n) × (n ≤ 8)
  operator-room l =
      let t = turn (at + 1) (op2 (get_or binary (get_or p at 0 - 19) add)) (operator-read p at left-readable l) in (t.enough, t.most)

  -- what each arm leaves, over the other tokens, which begin at offset q
  pub register_again : get_or p at 0 < 16 → (y q : ℕ) → y ≡ (f (get_or p at 0)).value → q ≡ at + 1 → Left f p v k q (n + 1) y (set vs n x)
  unfolding pushed
  register_again l y q ey eq =
      let r = get_or p at 0 in
      let m = register-room l in
      let size = left.slots in
      let more : n + 1 ≡ suc n = omega arith in
      rw (eq, more)
      ((turn (at + 1) (reg r) (register-read p at left-readable l)).again (suc n) y (set vs n x) (omega arith) (simp length-set size)
      (push-holds vs n x y (f r) left.stack (omega arith) ey left.holds))

  -- the constant's bytes begin at offset j
  pub constant_again : get_or p at 0 ≡ 16 → (y j q : ℕ) → y ≡ little p j 8 → j ≡ at + 1 → q ≡ at + 1 + 8 → Left f p v k q (n + 1) y (set vs n x)
  unfolding pushed
  constant_again b y j q ey ej eq =
      let c = little p (at + 1) 8 in
      let m = constant-room b in
      let size = left.slots in
      let more : n + 1 ≡ suc n = omega arith in
      rw (eq, more)
      ((turn (at + 1 + 8) (const c) (constant-read p at left-readable b).1).again (suc n) y (set vs n x) (omega arith) (simp length-set size)
      (push-holds vs n x y (tagged c empty) left.stack (omega arith) (rw ej at ey) left.holds))

  pub unary_again : 16 ≤ get_or p at 0 → get_or p at 0 ≢ 16 → get_or p at 0 < 19 → (y q : ℕ) → y ≡ apply1 (get_or unary (get_or p at 0 - 17) neg) x
      → q ≡ at + 1 → Left f p v k q n y vs
  unary_again l ne u y q ey eq =
      let o = get_or unary (get_or p at 0 - 17) neg in
      let t = turn (at + 1) (op1 o) (unary_read p at left-readable l ne u) in
      let en = t.enough in
      rw (ey, eq) (t.again n (apply1 o x) vs (omega arith) left.slots (unary-holds f o vs x n left.stack en left.holds))

  pub binary_again : 19 ≤ get_or p at 0 → (y q : ℕ) → y ≡ apply2 (get_or binary (get_or p at 0 - 19) add) (get_or vs (n - 1) 0) x
      → q ≡ at + 1 → Left f p v k q (n - 1) y vs
  binary_again l y q ey eq =
      let o = get_or binary (get_or p at 0 - 19) add in
      let t = turn (at + 1) (op2 o) (operator-read p at left-readable l) in
      let en = t.enough in
      let en' : n ≡ suc (n - 1) = omega arith in
      rw (ey, eq)
      (t.again (n - 1) (apply2 o (get_or vs (n - 1) 0) x) vs (omega arith) left.slots
      (binary-holds f o vs x (n - 1) left.stack (omega arith) (rw en' at left.holds)))

-- one value is held in the end: the top
last : (vs : List ℕ) (x : ℕ) (st : List Tagged) → StackHolds vs x 1 st → x ≡ (top st).value
unfolding top
last vs x [] h = absurd h
last vs x (b ∷ []) h = h.0
last vs x (b ∷ c ∷ st) h = absurd h.1

pub finish : (f : ℕ → Tagged) (p : List ℕ) (v at n x : ℕ) (vs : List ℕ) → Left f p v 0 at n x vs → x ≡ v
unfolding tokens held eval_on
finish f p v at n x vs left = last vs x left.stack (rw left.keeps at left.holds) ∙ left.gives
