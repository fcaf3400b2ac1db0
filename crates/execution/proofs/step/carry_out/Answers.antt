-- `carry_out` meets its contract: each instruction's effect is the rules'. Assumes nothing.
use mathlib.Core.Path.{refl, sym, ◌∙◌}
use native.Mathlib.Omega.{arith}
use Rattle.evaluation.proofs.Laws.{second-sound, register-value}
use Rattle.stepping.specs.Progress.{standing}
use Rattle.execution.proofs.Effects.{skip-carried, barrier_carried, assign-carried, load-carried, store-carried, jump-carried, branch-carried}
use Rattle.execution.proofs.Effects.{assign_if_carried, not_carried, load-seen, store-seen, jump-seen, branch-seen}
use Rattle.execution.proofs.Effects.{load-shown, store-shown, jump-shown, branch-shown}
use Rattle.execution.proofs.step.carry_out.Goals as goal

pub overflow_add-next : goal.overflow_add-next
overflow_add-next c =
    let h = c.requires.place in omega arith

pub skip-requires : goal.skip-requires
skip-requires c =
    let h = c.requires.place in
    let s = c.requires.counted.steps in
    (c.requires.unexpired.fits.room, omega arith, omega arith)

pub assign-requires : goal.assign-requires
assign-requires c =
    let q = rw c.in-Assign.is at c.requires in
    let h = q.place in
    let s = q.counted.steps in
    (q.unexpired, omega arith, omega arith, q.below)

pub load-requires : goal.load-requires
load-requires c =
    let q = rw c.in-Load.is at c.requires in
    let l = q.limits.cells in
    let h = q.place in
    let s = q.counted.steps in (
      record { unexpired = q.unexpired; room = load-shown c.requires c.in-Load.is; place = omega arith; steps = omega arith },
      q.below,
      omega arith,
    )

pub store-requires : goal.store-requires
store-requires c =
    let q = rw c.in-Store.is at c.requires in
    let l = q.limits.cells in
    let h = q.place in
    let s = q.counted.steps in (
      record { unexpired = q.unexpired; room = store-shown c.requires c.in-Store.is; place = omega arith; steps = omega arith },
      q.below,
      omega arith,
    )

pub go_to-requires : goal.go_to-requires
go_to-requires c =
    let s = c.requires.counted.steps in
    (c.requires.unexpired.fits.room, jump-shown c.requires c.in-Jump.is, omega arith)

pub go_to-requires-in-BranchZero : goal.go_to-requires-in-BranchZero
go_to-requires-in-BranchZero c =
    let s = c.requires.counted.steps in
    (c.requires.unexpired.fits.room, branch-shown c.requires c.in-BranchZero.is, omega arith)

pub chosen-v-requires : goal.chosen-v-requires
chosen-v-requires c =
    let q = rw c.in-AssignIf.is at c.requires in
    let r = q.unexpired.fits.room in
    record {
      e_value = second-sound c.args.p.now c.in-AssignIf.is c.requires.sound;
      registers_in_bounds = omega arith;
      r_lt_registers = q.below;
    }

pub assign-requires-in-AssignIf : goal.assign-requires-in-AssignIf
assign-requires-in-AssignIf c =
    let q = rw c.in-AssignIf.is at c.requires in
    let h = q.place in
    let s = q.counted.steps in
    (q.unexpired, omega arith, omega arith, q.below)

pub skip-requires-in-Barrier : goal.skip-requires-in-Barrier
skip-requires-in-Barrier c =
    let h = c.requires.place in
    let s = c.requires.counted.steps in
    (c.requires.unexpired.fits.room, omega arith, omega arith)

-- a load, a store, a jump or a branch that brings a location in
pub returns-then-not-subset : goal.returns-then-not-subset
returns-then-not-subset c =
    let a = c.args in
    not_carried a.i a.a.deps refl (sym c.subset.ensures ∙ c.if-not-subset.true)
    (λ code. load-seen a.p.now a.t (standing a.work.now a.trace.now a.c) code c.in-Load.is
    (rw c.in-Load.is at c.requires.value))

pub returns-then-not-subset-2 : goal.returns-then-not-subset-2
returns-then-not-subset-2 c =
    let a = c.args in
    not_carried a.i a.a.deps refl (sym c.subset-in-Store.ensures ∙ c.if-not-subset-2.true)
    (λ code. store-seen a.p.now a.t (standing a.work.now a.trace.now a.c) code c.in-Store.is
    (rw c.in-Store.is at c.requires.value))

pub returns-then-not-subset-3 : goal.returns-then-not-subset-3
returns-then-not-subset-3 c =
    let a = c.args in
    not_carried a.i a.a.deps refl (sym c.subset-in-Jump.ensures ∙ c.if-not-subset-3.true)
    (λ code. jump-seen a.p.now a.t (standing a.work.now a.trace.now a.c) code c.in-Jump.is
    (rw c.in-Jump.is at c.requires.value))

pub returns-then-not-subset-4 : goal.returns-then-not-subset-4
returns-then-not-subset-4 c =
    let a = c.args in
    let q = rw c.in-BranchZero.is at c.requires in
    not_carried a.i a.a.deps refl (sym c.subset-in-BranchZero.ensures ∙ c.if-not-subset-4.true)
    (λ code. branch-seen a.p.now a.t (standing a.work.now a.trace.now a.c) code c.in-BranchZero.is q.below
    (rw c.in-BranchZero.is at c.requires.value ∙ register-value _ _))

pub returns-in-Skip : goal.returns-in-Skip
returns-in-Skip c =
    let a = c.args in
    let l = c.requires.limits.cells in
    skip-carried c.in-Skip.is
    (c.skip.ensures.carried a.trace.now a.t.cells c.requires.unexpired (omega arith))

pub returns-in-Assign : goal.returns-in-Assign
returns-in-Assign c =
    let a = c.args in
    let l = c.requires.limits.cells in
    assign-carried c.in-Assign.is (rw c.in-Assign.is at c.requires.value)
    (c.assign.ensures a.trace.now a.t.cells (omega arith))

pub returns-else-not-subset : goal.returns-else-not-subset
returns-else-not-subset c =
    load-carried c.in-Load.is (rw c.in-Load.is at c.requires.value)
    (sym c.subset.ensures ∙ c.if-not-subset.false) c.load.ensures

pub returns-else-not-subset-2 : goal.returns-else-not-subset-2
returns-else-not-subset-2 c =
    store-carried c.in-Store.is (rw c.in-Store.is at c.requires.value)
    (sym c.subset-in-Store.ensures ∙ c.if-not-subset-2.false) c.store.ensures

pub returns-else-not-subset-3 : goal.returns-else-not-subset-3
returns-else-not-subset-3 c =
    let l = c.requires.limits.cells in
    jump-carried c.in-Jump.is (rw c.in-Jump.is at c.requires.value)
    (sym c.subset-in-Jump.ensures ∙ c.if-not-subset-3.false) c.jump_to-place.ensures
    (c.go_to.ensures.carried c.args.a c.args.t.cells refl c.requires.unexpired (omega arith))

pub returns-else-not-subset-4 : goal.returns-else-not-subset-4
returns-else-not-subset-4 c =
    let l = c.requires.limits.cells in
    let q = rw c.in-BranchZero.is at c.requires in
    branch-carried c.in-BranchZero.is q.below (rw c.in-BranchZero.is at c.requires.value ∙ register-value _ _)
    (sym c.subset-in-BranchZero.ensures ∙ c.if-not-subset-4.false) c.branch_to-place.ensures
    (c.go_to-in-BranchZero.ensures.carried c.args.a c.args.t.cells refl c.requires.unexpired (omega arith))

pub returns-in-AssignIf : goal.returns-in-AssignIf
returns-in-AssignIf c =
    let a = c.args in
    let l = c.requires.limits.cells in
    let q = rw c.in-AssignIf.is at c.requires in
    assign_if_carried c.in-AssignIf.is q.below (rw c.in-AssignIf.is at c.requires.value) c.chosen-v.ensures
    (c.assign-in-AssignIf.ensures a.trace.now a.t.cells (omega arith))

pub returns-in-Barrier : goal.returns-in-Barrier
returns-in-Barrier c =
    let a = c.args in
    let l = c.requires.limits.cells in
    barrier_carried c.in-Barrier.is
    (c.skip-in-Barrier.ensures.carried a.trace.now a.t.cells c.requires.unexpired (omega arith))
