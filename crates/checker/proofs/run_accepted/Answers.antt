-- `run_accepted` meets its contract: a table that is none and too short an area are refused before anything is written, else the run is
-- made. Assumes nothing.
use mathlib.Core.Path.{refl, ◌∙◌, ap}
use native.Mathlib.Omega.{arith}
use Rattle.rules.specs.Rules.Calls.{run_refused}
use Rattle.job.specs.Answers.{accepts}
use Rattle.job_run.specs.Accepted.{accepted-limits}
use Rattle.checker.proofs.Laws.{exact_untabled, exact_short, areas-fit, exact-ran}
use Rattle.checker.proofs.run_accepted.Goals as goal

pub returns-in-Err : goal.returns-in-Err
returns-in-Err c =
    let a = c.args in
    let told = c.in-Err.ensures.err in
    exact_untabled (accepts a.job.now) a.trace.now a.end.now a.work.now a.costs.now told.1 (c.run_refused.ensures ∙ ap run_refused told.0)

pub locations-requires : goal.locations-requires
locations-requires c =
    let l = (accepted-limits (accepts c.args.job.now)).cells in omega arith

pub returns-then-not-areas_fit : goal.returns-then-not-areas_fit
returns-then-not-areas_fit c =
    let a = c.args in
    let costs = c.in-Ok.costs in
    exact_short (accepts a.job.now) a.trace.now a.end.now a.work.now
    (rw c.locations.ensures at c.areas_fit.ensures) c.if-not-areas_fit.true a.costs.now
    (rw c.in-Ok.ensures.ok at costs.fit) c.run_refused-then-not-areas_fit.ensures

pub run_in_areas-r-requires : goal.run_in_areas-r-requires
run_in_areas-r-requires c =
    let a = c.args in
    areas-fit (accepts a.job.now) a.trace.now a.end.now a.work.now
    (rw c.locations.ensures at c.areas_fit.ensures) c.if-not-areas_fit.false a.job.now refl

pub report-answer-requires : goal.report-answer-requires
report-answer-requires c = c.run_in_areas-r.ensures.work

pub clear-requires : goal.clear-requires
clear-requires c = c.run_in_areas-r.ensures.work

pub returns : goal.returns
returns c =
    let a = c.args in
    let costs = c.in-Ok.costs in
    rw c.in-Ok.ensures.ok at
    (exact-ran (accepts a.job.now) a.trace.now a.end.now a.work.now
    (rw c.locations.ensures at c.areas_fit.ensures) c.if-not-areas_fit.false _ costs.fit
    c.run_in_areas-r.ensures a.job.now.listed c.report-answer.ensures c.clear.ensures)
