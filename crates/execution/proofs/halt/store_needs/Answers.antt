-- `store_needs` meets its contract, kind by kind: only a store needs an address. Assumes nothing.
use native.Mathlib.Omega.{arith}
use Rattle.execution.proofs.Overfull.{other_needs, store-inside_needs, store-outside_needs}
use Rattle.execution.proofs.halt.store_needs.Goals as goal

pub evaluate-a-requires : goal.evaluate-a-requires
evaluate-a-requires c =
    (rw c.in-Store.is at c.requires.0, omega arith)

-- a store to a cell
pub returns-then-a-cells : goal.returns-then-a-cells
returns-then-a-cells c code k ec =
    let a = c.args in
    store-inside_needs a.p.now a.work.now a.cells code k ec c.in-Store.is c.evaluate-a.ensures c.if-a-cells.true

-- and one outside
pub returns : goal.returns
returns c code k ec =
    let a = c.args in
    store-outside_needs a.p.now a.work.now a.cells code k ec c.in-Store.is c.evaluate-a.ensures c.if-a-cells.false
    c.new.ensures c.is_overfull.ensures

pub returns-in_default : goal.returns-in_default
returns-in_default c code k ec = other_needs _ c.in_default.not-Store _ code _
