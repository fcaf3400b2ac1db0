-- `put_register_and_two` meets its contract: the three fields, one after the other. Assumes nothing.
use Rattle.byte_writer.specs.Writers.{writes-append}
use Rattle.text_printer.proofs.put_register_and_two.Goals as goal

pub returns : goal.returns
returns c = writes-append c.put_register_field.ensures (writes-append c.put_expression_field.ensures c.put_expression_field-2.ensures)
