-- `pair::compare_accepted` meets its contract: the refusals in their order, before anything is written. Assumes nothing.
use mathlib.Core.Path.{sym, ◌∙◌}
use native.Mathlib.Omega.{arith}
use Rattle.std.proofs.lemmas.Result.{err_from_is_err_and}
use Rattle.job.specs.Answers.{accepts}
use Rattle.job_run.specs.Accepted.{accepted-limits}
use Rattle.pair.proofs.Laws.{ready_by, other-size, no_table, unfit}
use Rattle.pair.proofs.compare_accepted.Goals as goal

pub locations-requires : goal.locations-requires
locations-requires c =
    let l = (accepted-limits (accepts c.args.job.now)).cells in omega arith

pub overflow_mul-locations : goal.overflow_mul-locations
overflow_mul-locations c =
    let l = (accepted-limits (accepts c.args.job.now)).cells in omega arith

pub returns-then-second-locations : goal.returns-then-second-locations
returns-then-second-locations c =
    let a = c.args in
    other-size (accepts a.job.now) a.second.now a.costs.now a.first_trace.now a.second_trace.now a.work.now
    (rw c.locations.ensures at c.if-second-locations.true)

pub returns-in_err-costs : goal.returns-in_err-costs
returns-in_err-costs c =
    let a = c.args in
    let told = c.in_err-costs.ensures.err in
    let p = err_from_is_err_and c.from_residual.result c.from_residual.ensures.1 in
    rw (p.1, p.2, told.0)
    (no_table (accepts a.job.now) a.second.now a.costs.now a.first_trace.now a.second_trace.now a.work.now
    (rw c.locations.ensures at c.if-second-locations.false) told.1)

pub returns-then-not-areas_fit : goal.returns-then-not-areas_fit
returns-then-not-areas_fit c =
    let a = c.args in
    let costs = c.in_ok-costs.costs in
    unfit (accepts a.job.now) a.second.now a.costs.now a.first_trace.now a.second_trace.now a.work.now
    (rw c.locations.ensures at c.if-second-locations.false) (rw c.in_ok-costs.ensures.ok at costs.fit)
    (sym c.areas_fit.ensures ∙ c.if-not-areas_fit.true)

pub compare_runs-requires : goal.compare_runs-requires
compare_runs-requires c =
    let a = c.args in
    record {
      ready = ready_by a.first_trace.now a.second_trace.now a.work.now (sym c.areas_fit.ensures ∙ c.if-not-areas_fit.false);
      sized = rw c.locations.ensures at c.if-second-locations.false;
    }

pub returns : goal.returns
returns c = rw c.in_ok-costs.ensures.ok at c.compare_runs.ensures
