-- `store` meets its contract: the test is the rules', and so is the word. Assumes nothing.
use mathlib.Core.Path.{refl}
use native.Mathlib.Omega.{arith}
use Rattle.evaluation.proofs.Laws.{store-inside, store-outside}
use Rattle.stepping.proofs.Steps.{store_in_cell, store-tried}
use Rattle.stepping.proofs.store.Goals as goal

pub returns-then-cells-address : goal.returns-then-cells-address
returns-then-cells-address c =
    let a = c.args in
    let p = c.requires in
    store-tried a.r a.a _ c.if-cells-address.true
    (λ code ec. store-outside a.work.now a.cells a.a code ec a.r c.if-cells-address.true p.1 refl c.register.ensures
    c.load.ensures c.joined-v.ensures)
    (c.store_outside.ensures a.cells p.2)

pub overflow_add-place : goal.overflow_add-place
overflow_add-place c =
    let h = c.requires.0.place in
    record { fits = h }

pub assign-stored-requires : goal.assign-stored-requires
assign-stored-requires c =
    let p = c.requires in
    let l = c.cell-cell.ensures in
    let n = c.new.ensures in
    let h = c.if-cells-address.false in
    let m = p.2 in
    (p.0.unexpired.fits, c.remaining_window-remaining.ensures.left p.0.unexpired.costs p.0.unexpired.window, omega arith)

pub count_step-requires : goal.count_step-requires
count_step-requires c =
    let p = c.requires in
    omega (arith, p.0.room, p.0.steps, c.well_formed)

pub returns : goal.returns
returns c =
    let a = c.args in
    let p = c.requires in
    store_in_cell a.r _ _ c.remaining_window-remaining.ensures c.assign-stored.ensures c.if-cells-address.false p.2
    (λ code ec. store-inside a.work.now a.cells a.a code ec a.r c.if-cells-address.false p.1 c.new.ensures c.cell-cell.ensures
    c.register.ensures c.load.ensures c.joined-v.ensures)
    c.observe.ensures c.count_step.ensures
