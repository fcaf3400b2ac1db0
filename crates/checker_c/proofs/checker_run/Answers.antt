-- `checker_run` meets its contract. Assumes nothing.
use Rattle.checker_c.proofs.Laws.{run-refused, run_returned, run-members}
use Rattle.checker_c.proofs.checker_run.Goals as goal

pub write_run-requires : goal.write_run-requires
write_run-requires c =
    run-members c.run-r.ensures

pub returns-in-Err : goal.returns-in-Err
returns-in-Err c =
    run-refused c.run-r.ensures c.in-Err.is c.from.ensures

pub returns-in-Ok : goal.returns-in-Ok
returns-in-Ok c =
    run_returned c.run-r.ensures c.in-Ok.is c.write_run.ensures
