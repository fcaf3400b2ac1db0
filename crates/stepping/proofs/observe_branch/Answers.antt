-- `observe_branch` meets its contract: one observation after the other. Assumes nothing.
use Rattle.stepping.proofs.Laws.{stored-twice}
use Rattle.stepping.proofs.observe_branch.Goals as goal

pub returns : goal.returns
returns c =
    let a = c.args in
    stored-twice a.trace.now c.observe.new.trace c.observe-2.new.trace a.k a.kind a.id 2 a.place
    c.observe.ensures c.observe-2.ensures
