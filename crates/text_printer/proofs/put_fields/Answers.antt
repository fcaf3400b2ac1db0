-- `put_fields` meets its contract, kind by kind. Assumes nothing.
use Rattle.byte_writer.specs.Writers.{writes-nothing}
use Rattle.text_printer.proofs.put_fields.Goals as goal

pub put_register_and_expression-requires : goal.put_register_and_expression-requires
put_register_and_expression-requires c =
    let told = rw c.in-Assign.is at c.requires in
    told

pub put_register_and_expression-requires-in-Load : goal.put_register_and_expression-requires-in-Load
put_register_and_expression-requires-in-Load c =
    let told = rw c.in-Load.is at c.requires in
    told

pub put_register_and_expression-requires-in-Store : goal.put_register_and_expression-requires-in-Store
put_register_and_expression-requires-in-Store c =
    let told = rw c.in-Store.is at c.requires in
    told

pub put_expression_field-requires : goal.put_expression_field-requires
put_expression_field-requires c =
    let told = rw c.in-Jump.is at c.requires in
    told

pub put_register_and_label-requires : goal.put_register_and_label-requires
put_register_and_label-requires c =
    let told = rw c.in-BranchZero.is at c.requires in
    told.1

pub put_register_and_two-requires : goal.put_register_and_two-requires
put_register_and_two-requires c =
    let told = rw c.in-AssignIf.is at c.requires in
    (told.0.0, told.0.1, told.1)

pub returns-in-Skip : goal.returns-in-Skip
returns-in-Skip c =
    rw c.in-Skip.is (writes-nothing _)

pub returns-in-Assign : goal.returns-in-Assign
returns-in-Assign c =
    rw c.in-Assign.is c.put_register_and_expression.ensures

pub returns-in-Load : goal.returns-in-Load
returns-in-Load c =
    rw c.in-Load.is c.put_register_and_expression-in-Load.ensures

pub returns-in-Store : goal.returns-in-Store
returns-in-Store c =
    rw c.in-Store.is c.put_register_and_expression-in-Store.ensures

pub returns-in-Jump : goal.returns-in-Jump
returns-in-Jump c =
    rw c.in-Jump.is c.put_expression_field.ensures

pub returns-in-BranchZero : goal.returns-in-BranchZero
returns-in-BranchZero c =
    rw c.in-BranchZero.is c.put_register_and_label.ensures

pub returns-in-AssignIf : goal.returns-in-AssignIf
returns-in-AssignIf c =
    rw c.in-AssignIf.is c.put_register_and_two.ensures

pub returns-in-Barrier : goal.returns-in-Barrier
returns-in-Barrier c =
    rw c.in-Barrier.is (writes-nothing _)
