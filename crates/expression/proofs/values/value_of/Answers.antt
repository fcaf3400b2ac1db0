-- `expression::values::value_of` meets its contract. The invariant: the tokens left, over the values in the slots and on top, give the whole value.
-- Assumes nothing.
use mathlib.Core.Path.{◌≡◌, refl, ap, ◌∙◌}
use Prim.Native.Nat.{ℕ, suc, ◌<◌, ◌+◌, ◌-◌}
use native.Mathlib.Nat.{add-zero, sub-zero}
use native.Mathlib.Omega.{arith}
use borrow.Author.Rules.{rules}
use mathlib.Core.List.{List}
use Rattle.rules.specs.declared.Tagged.{Tagged}
use Rattle.token.specs.Readable.{token-read, constant-read}
use Rattle.work.specs.Words.{tagged_at}
use Rattle.expression.proofs.Stack.{Left, start, left-readable, finish, register-room, constant-room, operator-room}
use Rattle.expression.proofs.Stack.{register_again, constant_again, unary_again, binary_again}
use Rattle.expression.proofs.values.value_of.Goals.{then-byte-lt16, else-byte-lt16+then-byte-gt18, else-byte-lt16+else-byte-gt18+then-byte-eq16, else-byte-lt16+else-byte-gt18+else-byte-eq16}
use Rattle.expression.proofs.values.value_of.Goals as goal

-- in a turn a token is left
left_in : {f : ℕ → Tagged} {p : List ℕ} {x k held top : ℕ} {stack : List ℕ} {n i : ℕ} → Left f p x (n - i) k held top stack → i < n → Left f p x (suc (n - (i + 1))) k held top stack
left_in {n = n} {i = i} l h = let e : n - i ≡ suc (n - (i + 1)) = omega arith in rw e at l

-- what is held, as the code has it where its branches meet
same : {f : ℕ → Tagged} {p : List ℕ} {x k q n n' y : ℕ} {vs vs' : List ℕ} → n' ≡ n → vs' ≡ vs → Left f p x k q n y vs → Left f p x k q n' y vs'
same e d l = rw (e, d) l

pub loop-i-init : goal.loop-i-init
loop-i-init c =
    let a = c.args in
    rw (sub-zero, add-zero) (start (tagged_at a.work.now) a.p.now a.e 0 _ (search rules) c.requires.0)

pub overflow_add-byte : goal.overflow_add-byte
overflow_add-byte c = let h = (token-read _ _ (left-readable (left_in c.loop-i.invariant c.loop-i-test.true))).0 in search rules

pub bounds-p-from : goal.bounds-p-from
bounds-p-from c = (token-read _ _ (left-readable (left_in c.loop-i.invariant c.loop-i-test.true))).0

-- a register finds a free slot
pub offset_bounds-stack-held : goal.offset_bounds-stack-held
offset_bounds-stack-held c = let h = register-room (left_in c.loop-i.invariant c.loop-i-test.true) c.if-byte-lt16.true in omega arith

pub bounds-stack-held : goal.bounds-stack-held
bounds-stack-held c = let h = register-room (left_in c.loop-i.invariant c.loop-i-test.true) c.if-byte-lt16.true in omega arith

pub overflow_add-held : goal.overflow_add-held
overflow_add-held c = let h = register-room (left_in c.loop-i.invariant c.loop-i-test.true) c.if-byte-lt16.true in omega arith

pub load_value-top-requires : goal.load_value-top-requires
load_value-top-requires c = let h = c.if-byte-lt16.true in let e = c.register.ensures in omega arith

pub overflow_sub-held : goal.overflow_sub-held
overflow_sub-held c =
    let most = c.if-byte-gt18.true in
    let h = (operator-room (left_in c.loop-i.invariant c.loop-i-test.true) (omega arith)).0 in omega arith

pub offset_bounds-stack-held-then-byte-gt18 : goal.offset_bounds-stack-held-then-byte-gt18
offset_bounds-stack-held-then-byte-gt18 c =
    let most = c.if-byte-gt18.true in
    let h = (operator-room (left_in c.loop-i.invariant c.loop-i-test.true) (omega arith)).1 in omega arith

pub bounds-stack-held-then-byte-gt18 : goal.bounds-stack-held-then-byte-gt18
bounds-stack-held-then-byte-gt18 c =
    let most = c.if-byte-gt18.true in
    let h = operator-room (left_in c.loop-i.invariant c.loop-i-test.true) (omega arith) in
    let low = h.0 in
    let high = h.1 in omega arith

pub overflow_sub-byte : goal.overflow_sub-byte
overflow_sub-byte c = let h = c.if-byte-gt18.true in omega arith

pub offset_bounds-stack-held-then-byte-eq16 : goal.offset_bounds-stack-held-then-byte-eq16
offset_bounds-stack-held-then-byte-eq16 c = let h = constant-room (left_in c.loop-i.invariant c.loop-i-test.true) c.if-byte-eq16.true in omega arith

pub bounds-stack-held-then-byte-eq16 : goal.bounds-stack-held-then-byte-eq16
bounds-stack-held-then-byte-eq16 c = let h = constant-room (left_in c.loop-i.invariant c.loop-i-test.true) c.if-byte-eq16.true in omega arith

pub overflow_add-held-then-byte-eq16 : goal.overflow_add-held-then-byte-eq16
overflow_add-held-then-byte-eq16 c = let h = constant-room (left_in c.loop-i.invariant c.loop-i-test.true) c.if-byte-eq16.true in omega arith

pub overflow_add-from : goal.overflow_add-from
overflow_add-from c =
    let h = (constant-read _ _ (left-readable (left_in c.loop-i.invariant c.loop-i-test.true)) c.if-byte-eq16.true).0 in search rules

pub word-top-requires : goal.word-top-requires
word-top-requires c =
    let h = (constant-read _ _ (left-readable (left_in c.loop-i.invariant c.loop-i-test.true)) c.if-byte-eq16.true).0 in omega arith

pub overflow_add-from-then-byte-eq16 : goal.overflow_add-from-then-byte-eq16
overflow_add-from-then-byte-eq16 c =
    let h = (constant-read _ _ (left-readable (left_in c.loop-i.invariant c.loop-i-test.true)) c.if-byte-eq16.true).0 in search rules

pub overflow_sub-byte-else-byte-eq16 : goal.overflow_sub-byte-else-byte-eq16
overflow_sub-byte-else-byte-eq16 c = let l = c.if-byte-lt16.false in let ne = c.if-byte-eq16.false in omega arith

pub loop-i-preserved : goal.loop-i-preserved
loop-i-preserved c =
    let v = c.loop-i in
    let f = tagged_at c.args.work.now in
    let left = left_in v.invariant c.loop-i-test.true in
    elim c.if-byte-lt16.branch [
      | then-byte-lt16 w ↦
          same w.held-is w.stack-is
          (register_again left w.if-byte-lt16.true _ _
          (w.top-is ∙ w.load_value-top.ensures ∙ ap (λ (l : ℕ). (f l).value) w.register.ensures) (omega (arith, w.from-is)))
      | else-byte-lt16+then-byte-gt18 w ↦
          same w.held-is w.stack-is
          (binary_again left (omega (arith, w.if-byte-gt18.true)) _ _ (w.top-is ∙ w.operate_two-top.ensures) (omega (arith, w.from-is)))
      | else-byte-lt16+else-byte-gt18+then-byte-eq16 w ↦
          same w.held-is w.stack-is
          (constant_again left w.if-byte-eq16.true _ (v.from + v.i + 1) _ (w.top-is ∙ w.word-top.ensures) refl (omega (arith, w.from-is)))
      | else-byte-lt16+else-byte-gt18+else-byte-eq16 w ↦
          same w.held-is w.stack-is
          (unary_again left w.if-byte-lt16.false w.if-byte-eq16.false (omega (arith, w.if-byte-gt18.false)) _ _ (w.top-is ∙ w.operate_one-top.ensures)
          (omega (arith, w.from-is)))
    ]

pub returns : goal.returns
returns c =
    let v = c.loop-i in
    let a = c.args in
    let e : a.e.count - v.i ≡ 0 = omega arith in
    finish _ a.p.now _ (v.from + v.i) v.held v.top v.stack (rw e at v.invariant)
