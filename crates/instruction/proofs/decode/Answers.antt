-- `instruction::decode` meets its contract, by the kind. Assumes nothing.
use mathlib.Core.Path.{refl, sym, ap, ◌∙◌}
use Rattle.instruction.specs.Fields.{instr-kind, instr_unknown}
use Rattle.std.proofs.Common.{rules}
use Rattle.std.proofs.lemmas.Result.{err_from_is_err_and}
use Rattle.rules.specs.Rules.Instructions.{assign, load, store, kind_number}
use Rattle.rules.specs.Rules.JobFile.{instr, fields}
use Rattle.token.specs.Bytes.{byte_past}
use Rattle.instruction.proofs.decode.Goals as goal

pub returns-then-p-at : goal.returns-then-p-at
unfolding instr
returns-then-p-at c = let a = c.args in (simp (byte_past a.p.now a.at c.if-p-at.true), tt)

pub returns-in_err-try_from : goal.returns-in_err-try_from
returns-in_err-try_from c =
    let a = c.args in
    let told = c.in_err-try_from.ensures in
    let r = err_from_is_err_and c.from_residual.result c.from_residual.ensures.1 in
    rw (r.1, r.2, told.0) (sym (instr_unknown a.p.now a.at c.if-p-at.false told.1), tt)

pub returns-in-Skip : goal.returns-in-Skip
unfolding fields
returns-in-Skip c =
    let a = c.args in
    (sym (instr-kind a.p.now a.at 0 c.if-p-at.false (sym c.in_ok-try_from.ensures ∙ ap kind_number c.in-Skip.is)), refl)

pub returns-in-Assign : goal.returns-in-Assign
unfolding fields
returns-in-Assign c =
    let a = c.args in
    let r = c.read_with_register.ensures assign (record { means = λ r e i m. search rules; tested = λ r e. refl }) in
    (r.0 ∙ sym (instr-kind a.p.now a.at 1 c.if-p-at.false (sym c.in_ok-try_from.ensures ∙ ap kind_number c.in-Assign.is)), r.1)

pub returns-in-Load : goal.returns-in-Load
unfolding fields
returns-in-Load c =
    let a = c.args in
    let r = c.read_with_register-in-Load.ensures load (record { means = λ r e i m. search rules; tested = λ r e. refl }) in
    (r.0 ∙ sym (instr-kind a.p.now a.at 2 c.if-p-at.false (sym c.in_ok-try_from.ensures ∙ ap kind_number c.in-Load.is)), r.1)

pub returns-in-Store : goal.returns-in-Store
unfolding fields
returns-in-Store c =
    let a = c.args in
    let r = c.read_with_register-in-Store.ensures store (record { means = λ r e i m. search rules; tested = λ r e. refl }) in
    (r.0 ∙ sym (instr-kind a.p.now a.at 3 c.if-p-at.false (sym c.in_ok-try_from.ensures ∙ ap kind_number c.in-Store.is)), r.1)

pub returns-in-Jump : goal.returns-in-Jump
unfolding fields
returns-in-Jump c =
    let a = c.args in
    let r = c.read_jump.ensures in
    (r.0 ∙ sym (instr-kind a.p.now a.at 4 c.if-p-at.false (sym c.in_ok-try_from.ensures ∙ ap kind_number c.in-Jump.is)), r.1)

pub returns-in-BranchZero : goal.returns-in-BranchZero
unfolding fields
returns-in-BranchZero c =
    let a = c.args in
    let r = c.read_branch.ensures in
    (r.0 ∙ sym (instr-kind a.p.now a.at 5 c.if-p-at.false (sym c.in_ok-try_from.ensures ∙ ap kind_number c.in-BranchZero.is)), r.1)

pub returns-in-AssignIf : goal.returns-in-AssignIf
unfolding fields
returns-in-AssignIf c =
    let a = c.args in
    let r = c.read_conditional.ensures in
    (r.0 ∙ sym (instr-kind a.p.now a.at 6 c.if-p-at.false (sym c.in_ok-try_from.ensures ∙ ap kind_number c.in-AssignIf.is)), r.1)

pub returns-in-Barrier : goal.returns-in-Barrier
unfolding fields
returns-in-Barrier c =
    let a = c.args in
    (sym (instr-kind a.p.now a.at 7 c.if-p-at.false (sym c.in_ok-try_from.ensures ∙ ap kind_number c.in-Barrier.is)), refl)
