-- `expression::sets::set_of` meets its contract. The invariant: the tokens left, over the set gathered before them, give the whole set.
-- Assumes nothing.
use mathlib.Core.Path.{◌≡◌, refl, ap, ◌∙◌}
use Prim.Native.Nat.{ℕ, suc, ◌<◌, ◌+◌, ◌-◌}
use native.Mathlib.Nat.{add-zero, sub-zero}
use native.Mathlib.Omega.{arith}
use borrow.Author.Rules.{rules}
use mathlib.Core.List.{List}
use Rattle.location.specs.declared.LocationSet.{LocationSet}
use Rattle.location.specs.Sets.{union}
use Rattle.rules.proofs.Theorems.SetsFirst.{set-promise}
use Rattle.token.specs.Meaning.{tokens_of}
use Rattle.token.specs.Readable.{token-read, constant-read}
use Rattle.work.specs.Words.{set_at}
use Rattle.expression.proofs.Gathering.{SetLeft, set-start, token-readable, register-gathers, constant-gathers, operator-gathers, set-finish}
use Rattle.expression.proofs.sets.set_of.Goals.{then-byte-lt16, else-byte-lt16+then-byte-eq16, else-byte-lt16+else-byte-eq16}
use Rattle.expression.proofs.sets.set_of.Goals as goal

-- in a turn a token is left
left_in : {f : ℕ → LocationSet} {p : List ℕ} {s : LocationSet} {k : ℕ} {d : LocationSet} {n i : ℕ} → SetLeft f p s (n - i) k d → i < n → SetLeft f p s (suc (n - (i + 1))) k d
left_in {n = n} {i = i} x h = let e : n - i ≡ suc (n - (i + 1)) = omega arith in rw e at x

-- the set, as the code has it where its branches meet
same : {f : ℕ → LocationSet} {p : List ℕ} {s : LocationSet} {k q : ℕ} {d d' : LocationSet} → d' ≡ d → SetLeft f p s k q d → SetLeft f p s k q d'
same e x = rw e x

pub loop-i-init : goal.loop-i-init
loop-i-init c =
    let a = c.args in
    rw (sub-zero, add-zero) (set-start (set_at a.work.now) a.p.now a.e c.empty-deps.result c.requires.0 c.empty-deps.ensures)

pub overflow_add-byte : goal.overflow_add-byte
overflow_add-byte c = let h = (token-read _ _ (token-readable (left_in c.loop-i.invariant c.loop-i-test.true))).0 in search rules

pub bounds-p-from : goal.bounds-p-from
bounds-p-from c = (token-read _ _ (token-readable (left_in c.loop-i.invariant c.loop-i-test.true))).0

pub load_set-more-requires : goal.load_set-more-requires
load_set-more-requires c = let h = c.if-byte-lt16.true in let e = c.register.ensures in omega arith

pub overflow_add-from : goal.overflow_add-from
overflow_add-from c = let h = (constant-read _ _ (token-readable (left_in c.loop-i.invariant c.loop-i-test.true)) c.if-byte-eq16.true).0 in search rules

pub loop-i-preserved : goal.loop-i-preserved
loop-i-preserved c =
    let a = c.args in
    let v = c.loop-i in
    let f = set_at a.work.now in
    let left = left_in v.invariant c.loop-i-test.true in
    elim c.if-byte-lt16.branch [
      | then-byte-lt16 w ↦
          register-gathers left w.if-byte-lt16.true _ _ (omega (arith, w.from-is))
          (w.deps-is ∙ w.union-deps.ensures ∙ ap (union v.deps) (w.load_set-more.ensures ∙ ap f w.register.ensures))
      | else-byte-lt16+then-byte-eq16 w ↦ same w.deps-is (constant-gathers left w.if-byte-eq16.true _ (omega (arith, w.from-is)))
      | else-byte-lt16+else-byte-eq16 w ↦
          same w.deps-is (operator-gathers left w.if-byte-lt16.false w.if-byte-eq16.false _ (omega (arith, w.from-is)))
    ]

pub returns : goal.returns
returns c =
    let v = c.loop-i in
    let a = c.args in
    let e : a.e.count - v.i ≡ 0 = omega arith in
    set-promise (set_at a.work.now) (λ r. refl) (tokens_of a.p.now a.e)
    (set-finish _ a.p.now _ (v.from + v.i) v.deps (rw e at v.invariant))
