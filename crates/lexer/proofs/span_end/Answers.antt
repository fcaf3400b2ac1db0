-- `lexer::span_end` meets its contract. The invariant: from here on the bytes that meet the test end where they end from the first offset on.
-- Assumes nothing.
use Rattle.std.proofs.Common.{◌≡◌, ◌+◌, ◌≤◌, ◌∙◌, refl, sym, arith, length}
use Rattle.lexer.specs.Fronts.{front-on, front-over, front_out}
use Rattle.lexer.proofs.span_end.Goals as goal

pub returns-then-text-at : goal.returns-then-text-at
returns-then-text-at g c = λ test same. let a = c.args in front_out test a.text.now a.at c.if-text-at.true

pub loop-i-init : goal.loop-i-init
loop-i-init g c = λ test same. refl

pub returns-then-not-goes_on : goal.returns-then-not-goes_on
returns-then-not-goes_on g c = λ test same.
    let text = c.args.text.now in
    let v = c.loop-i in
    front-over test text v.i c.loop-i-test.true (sym (same _ _ c.if-not-goes_on.ensures)) ∙ sym (v.invariant test same)

pub loop-i-preserved : goal.loop-i-preserved
loop-i-preserved g c = λ test same.
    let text = c.args.text.now in
    let v = c.loop-i in
    v.invariant test same ∙ front-on test text v.i c.loop-i-test.true (sym (same _ _ c.if-not-goes_on.ensures))

pub returns : goal.returns
returns g c = λ test same.
    let text = c.args.text.now in
    let v = c.loop-i in
    let whole : length text ≡ v.i = omega arith in
    whole ∙ front_out test text v.i (omega arith) ∙ sym (v.invariant test same)
