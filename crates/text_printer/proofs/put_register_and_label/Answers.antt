-- `put_register_and_label` meets its contract: the two fields, one after the other. Assumes nothing.
use Rattle.byte_writer.specs.Writers.{writes-append}
use Rattle.text_printer.proofs.put_register_and_label.Goals as goal

pub returns : goal.returns
returns c = writes-append c.put_register_field.ensures c.put_label_field.ensures
