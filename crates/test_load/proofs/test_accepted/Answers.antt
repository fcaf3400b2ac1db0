-- `test_accepted` meets its contract: the refusals in their order, before anything is written. Assumes nothing.
use mathlib.Core.Path.{sym, ◌∙◌}
use native.Mathlib.Omega.{arith}
use Rattle.std.proofs.lemmas.Result.{err_from_is_err_and}
use Rattle.job.specs.Answers.{accepts}
use Rattle.job_run.specs.Accepted.{accepted-limits}
use Rattle.pair.proofs.Laws.{ready_by}
use Rattle.test_load.proofs.Laws.{no_table, unfit, no_seed, short_state}
use Rattle.test_load.proofs.test_accepted.Goals as goal

pub returns-in_err-costs : goal.returns-in_err-costs
returns-in_err-costs c =
    let a = c.args in
    let told = c.in_err-costs.ensures.err in
    let p = err_from_is_err_and c.from_residual.result c.from_residual.ensures.1 in
    rw (p.1, p.2, told.0) (no_table (accepts a.job.now) a.seed a.costs.now a.first_trace.now a.second_trace.now a.work.now a.state.now told.1)

pub returns-then-not-areas_fit : goal.returns-then-not-areas_fit
returns-then-not-areas_fit c =
    let a = c.args in
    unfit (accepts a.job.now) a.seed a.costs.now a.first_trace.now a.second_trace.now a.work.now a.state.now
    (rw c.in_ok-costs.ensures.ok at c.in_ok-costs.costs.fit) (sym c.areas_fit.ensures ∙ c.if-not-areas_fit.true)

pub returns-then-seed-eq0 : goal.returns-then-seed-eq0
returns-then-seed-eq0 c =
    let a = c.args in
    no_seed (accepts a.job.now) a.seed a.costs.now a.first_trace.now a.second_trace.now a.work.now a.state.now
    (rw c.in_ok-costs.ensures.ok at c.in_ok-costs.costs.fit) (sym c.areas_fit.ensures ∙ c.if-not-areas_fit.false) c.if-seed-eq0.true

pub locations-requires : goal.locations-requires
locations-requires c =
    let l = (accepted-limits (accepts c.args.job.now)).cells in omega arith

pub overflow_mul-locations : goal.overflow_mul-locations
overflow_mul-locations c =
    let n = c.locations.ensures in
    let l = (accepted-limits (accepts c.args.job.now)).cells in omega arith

pub returns-then-state-locations : goal.returns-then-state-locations
returns-then-state-locations c =
    let a = c.args in
    let n = c.locations.ensures in
    short_state (accepts a.job.now) a.seed a.costs.now a.first_trace.now a.second_trace.now a.work.now a.state.now
    (rw c.in_ok-costs.ensures.ok at c.in_ok-costs.costs.fit) (sym c.areas_fit.ensures ∙ c.if-not-areas_fit.false)
    c.if-seed-eq0.false (omega arith)

pub run_load-requires : goal.run_load-requires
run_load-requires c =
    let a = c.args in
    let n = c.locations.ensures in
    let fit = sym c.areas_fit.ensures ∙ c.if-not-areas_fit.false in (
      record { ready = ready_by a.first_trace.now a.second_trace.now a.work.now fit; state = omega arith },
      omega (arith, c.if-seed-eq0.false),
    )

pub returns : goal.returns
returns c = rw c.in_ok-costs.ensures.ok at c.run_load.ensures
