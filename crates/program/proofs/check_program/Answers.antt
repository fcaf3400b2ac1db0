-- `program::check_program` meets its contract. The invariant: checking the instructions left is checking the whole program.
-- Assumes nothing.
use borrow.Author.Tests.{eq-eqb, ne_eqb}
use native.Mathlib.Omega.{arith}
use mathlib.Core.Path.{◌≡◌, sym, ◌∙◌}
use Prim.Native.Nat.{suc, ◌+◌, ◌-◌}
use Rattle.std.proofs.lemmas.Result.{err_from_is_err_and}
use Rattle.rules.specs.Rules.JobFile.{nothing_left, program}
use Rattle.program.proofs.Laws.{program-next, program-refused}
use Rattle.program.proofs.check_program.Goals as goal

pub loop-label-preserved : goal.loop-label-preserved
loop-label-preserved c =
    let a = c.args in
    let v = c.loop-label in
    let e : a.n - v.label ≡ suc (a.n - (v.label + 1)) = omega arith in
    let t = sym c.in_ok-at.was ∙ c.check_instruction.ensures in
    sym (program-next a.n (a.n - (v.label + 1)) v.label a.p.now v.at _ t) ∙ (rw e at v.invariant)

pub returns-in_err-at : goal.returns-in_err-at
returns-in_err-at c =
    let a = c.args in
    let v = c.loop-label in
    let e : a.n - v.label ≡ suc (a.n - (v.label + 1)) = omega arith in
    let t = sym c.in_err-at.was ∙ c.check_instruction.ensures in
    let r = err_from_is_err_and c.from_residual.result c.from_residual.ensures.1 in
    rw (r.1, r.2) (sym (program-refused a.n (a.n - (v.label + 1)) v.label a.p.now v.at _ t) ∙ (rw e at v.invariant))

pub returns-then-at-p : goal.returns-then-at-p
unfolding program nothing_left
returns-then-at-p c =
    let a = c.args in
    let v = c.loop-label in
    let e : a.n - v.label ≡ 0 = omega arith in
    (simp (ne_eqb _ _ c.if-at-p.true) at (rw e at v.invariant))

pub returns : goal.returns
unfolding program nothing_left
returns c =
    let a = c.args in
    let v = c.loop-label in
    let e : a.n - v.label ≡ 0 = omega arith in
    (simp (eq-eqb _ _ c.if-at-p.false) at (rw e at v.invariant))
