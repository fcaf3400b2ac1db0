-- `checker_read_text` meets its contract. Assumes nothing.
use Rattle.checker_c.proofs.Laws.{read-refused, read_returned}
use Rattle.checker_c.proofs.checker_read_text.Goals as goal

pub returns-in-Err : goal.returns-in-Err
returns-in-Err c =
    read-refused c.read_text.ensures c.in-Err.is c.from.ensures

pub returns-in-Ok : goal.returns-in-Ok
returns-in-Ok c =
    read_returned c.read_text.ensures c.in-Ok.is c.write_read.ensures
