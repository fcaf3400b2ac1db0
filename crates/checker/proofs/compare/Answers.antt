-- `compare` meets its contract: the answer and the areas are the rules', and such a call keeps its promise. Assumes nothing.
use Rattle.std.proofs.lemmas.Result.{err_from_is_err_and}
use Rattle.rules.specs.Rules.Pairs.{pair_lent}
use Rattle.rules.proofs.Theorems.Promises.{pair-promise}
use Rattle.checker.proofs.Laws.{pair-rejected}
use Rattle.checker.proofs.compare.Goals as goal

pub returns : goal.returns
returns c =
    let a = c.args in
    let l = pair_lent a.first_trace.now a.second_trace.now a.work.now in
    pair-promise a.job.now a.second.now a.costs.now l (rw c.in_ok-first.ensures.ok at c.compare_accepted.ensures)

pub returns-in_err-first : goal.returns-in_err-first
returns-in_err-first c =
    let a = c.args in
    let f = a.job.now in
    let s = a.second.now in
    let l = pair_lent a.first_trace.now a.second_trace.now a.work.now in
    let r = err_from_is_err_and c.from_residual.result c.from_residual.ensures.1 in
    rw (r.1, r.2) (pair-promise f s a.costs.now l (pair-rejected f s a.costs.now _ c.in_err-first.ensures.err l))
