-- `lowered_window` meets its contract. Assumes nothing.
use Rattle.stepping.proofs.Laws.{none_left, some_left}
use Rattle.stepping.proofs.lowered_window.Goals as goal

pub returns-then-left-eq0 : goal.returns-then-left-eq0
returns-then-left-eq0 c =
    none_left c.charged-left.ensures c.if-left-eq0.true c.window_at.ensures

pub returns : goal.returns
returns c = some_left c.charged-left.ensures c.if-left-eq0.false
