-- `transfer::alike_bytes` meets its contract. The invariant: the states are alike at the locations passed, so the answer is that of
-- the locations left. Assumes nothing.
use mathlib.Core.Path.{◌≡◌, sym, ◌∙◌}
use Prim.Native.Nat.{◌-◌}
use native.Mathlib.Nat.{sub-zero, add-zero}
use native.Mathlib.Omega.{arith}
use Rattle.rules.specs.Rules.JobFile.{words_at}
use Rattle.rules.specs.Rules.Pairs.{alike_from}
use Rattle.transfer.proofs.Laws.{alike-step}
use Rattle.transfer.proofs.alike_bytes.Goals as goal

pub loop-l-init : goal.loop-l-init
loop-l-init c = rw (sub-zero, add-zero)

pub returns-then-not-alike_at : goal.returns-then-not-alike_at
returns-then-not-alike_at c =
    let a = c.args in
    let v = c.loop-l in
    let e = alike-step a.public a.first.now a.second.now a.at a.n v.l (omega arith) in
    sym (rw (← c.alike_at.ensures, c.if-not-alike_at.true) at e) ∙ v.invariant

pub loop-l-preserved : goal.loop-l-preserved
loop-l-preserved c =
    let a = c.args in
    let v = c.loop-l in
    let e = alike-step a.public a.first.now a.second.now a.at a.n v.l (omega arith) in
    sym (rw (← c.alike_at.ensures, c.if-not-alike_at.false) at e) ∙ v.invariant

pub returns : goal.returns
unfolding alike_from words_at
returns c =
    let v = c.loop-l in
    let z : c.args.n - v.l ≡ 0 = omega arith in
    rw z at v.invariant
