-- `instruction_count` meets its contract. Assumes nothing.
use Rattle.printer.proofs.Laws.{count-accepted, count-refused}
use Rattle.printer.proofs.instruction_count.Goals as goal

pub returns-in-Ok : goal.returns-in-Ok
returns-in-Ok c = count-accepted c.args.job.now c.read_job.ensures c.in-Ok.is

pub returns-in-Err : goal.returns-in-Err
returns-in-Err c = count-refused c.args.job.now c.read_job.ensures c.in-Err.is
