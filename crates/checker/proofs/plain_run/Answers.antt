-- `plain_run` meets its contract: the answer and the areas are the rules', and such a call keeps its promise. Assumes nothing.
use Rattle.rules.specs.Rules.Calls.{lent}
use Rattle.rules.proofs.Theorems.Promises.{plain-promise}
use Rattle.checker.proofs.Laws.{plain-exact_rejected}
use Rattle.checker.proofs.plain_run.Goals as goal

pub returns-in-Ok : goal.returns-in-Ok
returns-in-Ok c =
    let a = c.args in
    plain-promise a.job.now (lent a.trace.now a.end.now a.work.now) (rw c.in-Ok.ensures.ok at c.plain_accepted.ensures)

pub returns-in-Err : goal.returns-in-Err
returns-in-Err c =
    let a = c.args in
    let f = a.job.now in
    let l = lent a.trace.now a.end.now a.work.now in
    plain-promise f l (plain-exact_rejected f _ c.in-Err.ensures.err l c.plain_refused.ensures)
