-- `LocationSet::first_from` meets its contract: an empty rest of a word is passed at once. Assumes nothing.
use native.Mathlib.Omega.{arith}
use Rattle.location.proofs.Passing.{word-passed, one_passed, first_found}
use Rattle.location.proofs.LocationSet.first_from.Goals as goal

pub loop-at-preserved-then-left-eq0 : goal.loop-at-preserved-then-left-eq0
loop-at-preserved-then-left-eq0 c =
    let v = c.loop-at.invariant in
    (omega (arith, v.0), word-passed v.1 c.rest-left.ensures c.if-left-eq0.true)

pub returns-then-left-eq1 : goal.returns-then-left-eq1
returns-then-left-eq1 c =
    let v = c.loop-at.invariant in
    first_found v.1 c.rest-left.ensures v.0 c.loop-at-test.true c.if-left-eq1.true

pub loop-at-preserved : goal.loop-at-preserved
loop-at-preserved c =
    let v = c.loop-at.invariant in
    (omega (arith, v.0), one_passed v.1 c.rest-left.ensures c.if-left-eq1.false)
