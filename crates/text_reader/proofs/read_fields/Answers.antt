-- `read_fields` meets its contract, by the kind of instruction. Assumes nothing.
use Rattle.std.proofs.Common.{Option, Some}
use mathlib.Core.Logic.{inl, inr}
use Rattle.text_reader.specs.declared.Progress.{Progress}
use Rattle.text_reader.proofs.Fields.{kind-told, skip-told, barrier_told, assign_told, load-told, store-told, jump-told, branch-told, conditional-told}
use Rattle.text_reader.proofs.read_fields.Goals as goal

pub returns-in-Skip : goal.returns-in-Skip
returns-in-Skip c =
    let a = c.args in
    let x : Option Progress = Some a.p in
    elim c.in-Skip.is [
      | inl e ↦ kind-told a.text.now a.p.at a.own.count a.own.label a.out.now a.p.to a.out.now x e (skip-told a.text.now a.p.at a.own.count a.own.label a.out.now a.p.to)
      | inr e ↦ kind-told a.text.now a.p.at a.own.count a.own.label a.out.now a.p.to a.out.now x e (barrier_told a.text.now a.p.at a.own.count a.own.label a.out.now a.p.to)
    ]

pub returns-in-Assign : goal.returns-in-Assign
returns-in-Assign c =
    let a = c.args in
    let r = c.read_assignment in
    elim c.in-Assign.is [
      | inl e ↦ kind-told a.text.now a.p.at a.own.count a.own.label a.out.now a.p.to r.new.out r.result e (assign_told a.text.now a.p.at a.own.count a.own.label a.out.now a.p.to r.new.out r.result r.ensures)
      | inr other ↦
          elim other [
            | inl e ↦ kind-told a.text.now a.p.at a.own.count a.own.label a.out.now a.p.to r.new.out r.result e (load-told a.text.now a.p.at a.own.count a.own.label a.out.now a.p.to r.new.out r.result r.ensures)
            | inr e ↦ kind-told a.text.now a.p.at a.own.count a.own.label a.out.now a.p.to r.new.out r.result e (store-told a.text.now a.p.at a.own.count a.own.label a.out.now a.p.to r.new.out r.result r.ensures)
          ]
    ]

pub returns-in-Jump : goal.returns-in-Jump
returns-in-Jump c =
    let a = c.args in
    let r = c.read_operand in
    kind-told a.text.now a.p.at a.own.count a.own.label a.out.now a.p.to r.new.out r.result c.in-Jump.is
    (jump-told a.text.now a.p.at a.own.count a.own.label a.out.now a.p.to r.new.out r.result r.ensures)

pub returns-in-BranchZero : goal.returns-in-BranchZero
returns-in-BranchZero c =
    let a = c.args in
    let r = c.read_branch in
    kind-told a.text.now a.p.at a.own.count a.own.label a.out.now a.p.to r.new.out r.result c.in-BranchZero.is
    (branch-told a.text.now a.p.at a.own.count a.own.label a.out.now a.p.to r.new.out r.result r.ensures)

pub returns-in-AssignIf : goal.returns-in-AssignIf
returns-in-AssignIf c =
    let a = c.args in
    let r = c.read_conditional in
    kind-told a.text.now a.p.at a.own.count a.own.label a.out.now a.p.to r.new.out r.result c.in-AssignIf.is
    (conditional-told a.text.now a.p.at a.own.count a.own.label a.out.now a.p.to r.new.out r.result r.ensures)
