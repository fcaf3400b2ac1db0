-- `remaining_window` meets its contract. Assumes nothing.
use Rattle.stepping.proofs.Laws.{closed-leaves, open_leaves}
use Rattle.stepping.proofs.remaining_window.Goals as goal

pub returns-then-c-eq0 : goal.returns-then-c-eq0
returns-then-c-eq0 c =
    let a = c.args in closed-leaves a.work.now a.c a.i c.if-c-eq0.true

pub returns : goal.returns
returns c = open_leaves c.charged.ensures c.if-c-eq0.false
