-- `find` meets its contract. The invariant: the number is that among the entries that are left, after those passed. Assumes nothing.
use mathlib.Core.Path.{sym, ◌∙◌}
use native.Mathlib.Omega.{arith}
use Rattle.outside.proofs.Laws.{found_here, found-later, found_none}
use Rattle.outside.proofs.find.Goals as goal

pub returns-then-address_of-value : goal.returns-then-address_of-value
returns-then-address_of-value c =
    let a = c.args in
    let z = found_here a.work.now c.loop-i.i a.count a.a.0 c.loop-i-test.true
    (sym c.address_of.ensures ∙ c.if-address_of-value.true ∙ c.value.ensures) in
    (omega arith, c.loop-i-test.true)

pub loop-i-preserved : goal.loop-i-preserved
loop-i-preserved c =
    let a = c.args in
    let z = found-later a.work.now c.loop-i.i a.count a.a.0 c.loop-i-test.true
    (λ e. c.if-address_of-value.false (c.address_of.ensures ∙ e ∙ sym c.value.ensures)) in
    sym z ∙ c.loop-i.invariant

pub returns : goal.returns
returns c =
    let a = c.args in
    let z = found_none a.work.now c.loop-i.i a.count a.a.0 c.loop-i-test.false in
    omega arith
