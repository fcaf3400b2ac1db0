-- `checker_plain_run` meets its contract. Assumes nothing.
use Rattle.checker_c.proofs.Laws.{plain-refused, plain_returned}
use Rattle.checker_c.proofs.checker_plain_run.Goals as goal

pub returns-in-Err : goal.returns-in-Err
returns-in-Err c =
    plain-refused c.plain_run-r.ensures c.in-Err.is c.from.ensures

pub returns-in-Ok : goal.returns-in-Ok
returns-in-Ok c =
    plain_returned c.plain_run-r.ensures c.in-Ok.is c.write_plain.ensures
