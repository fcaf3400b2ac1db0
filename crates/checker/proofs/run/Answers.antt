-- `run` meets its contract: the answer and the areas are the rules', and such a call keeps its promise. Assumes nothing.
use Rattle.rules.specs.Rules.Calls.{lent}
use Rattle.rules.proofs.Theorems.Promises.{run-promise}
use Rattle.checker.proofs.Laws.{exact-rejected}
use Rattle.checker.proofs.run.Goals as goal

pub returns-in-Ok : goal.returns-in-Ok
returns-in-Ok c =
    let a = c.args in
    run-promise a.job.now a.costs.now (lent a.trace.now a.end.now a.work.now) (rw c.in-Ok.ensures.ok at c.run_accepted.ensures)

pub returns-in-Err : goal.returns-in-Err
returns-in-Err c =
    let a = c.args in
    let f = a.job.now in
    let l = lent a.trace.now a.end.now a.work.now in
    run-promise f a.costs.now l (exact-rejected f _ c.in-Err.ensures.err l a.costs.now c.run_refused.ensures)
