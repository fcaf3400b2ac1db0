-- `evaluation::chosen` meets its contract: the test is the rules'. Assumes nothing.
use Rattle.evaluation.proofs.Laws.{chosen_old, chosen-new}
use Rattle.evaluation.proofs.chosen.Goals as goal

pub returns-then-c-eq0 : goal.returns-then-c-eq0
returns-then-c-eq0 c =
    let a = c.args in
    chosen_old a.work.now a.r a.c _ c.if-c-eq0.true c.register.ensures c.load.ensures
    c.joined.ensures

pub returns-then-e-eq1 : goal.returns-then-e-eq1
returns-then-e-eq1 c =
    chosen-new _ _ c.if-c-eq0.false c.one_value.ensures c.joined-then-e-eq1.ensures

pub returns : goal.returns
returns c =
    chosen-new _ _ c.if-c-eq0.false c.evaluate.ensures c.joined-2.ensures
