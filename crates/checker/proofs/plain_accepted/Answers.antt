-- `plain_accepted` meets its contract: too short an area is refused before anything is written, else the run is made. Assumes nothing.
use mathlib.Core.Path.{refl}
use native.Mathlib.Omega.{arith}
use Rattle.rules.proofs.Theorems.Costs.{ones_fit}
use Rattle.job.specs.Answers.{accepts}
use Rattle.job_run.specs.Accepted.{accepted-limits}
use Rattle.checker.proofs.Laws.{plain_short_areas, areas-fit, plain-ran}
use Rattle.checker.proofs.plain_accepted.Goals as goal

pub locations-requires : goal.locations-requires
locations-requires c =
    let l = (accepted-limits (accepts c.args.job.now)).cells in omega arith

pub returns-then-not-areas_fit : goal.returns-then-not-areas_fit
returns-then-not-areas_fit c =
    let a = c.args in
    plain_short_areas (accepts a.job.now) a.trace.now a.end.now a.work.now
    (rw c.locations.ensures at c.areas_fit.ensures) c.if-not-areas_fit.true c.plain_refused.ensures

pub invariant_of-costs : goal.invariant_of-costs
invariant_of-costs c = record { fit = rw c.fixed-ones.ensures ones_fit }

pub run_in_areas-r-requires : goal.run_in_areas-r-requires
run_in_areas-r-requires c =
    let a = c.args in
    areas-fit (accepts a.job.now) a.trace.now a.end.now a.work.now
    (rw c.locations.ensures at c.areas_fit.ensures) c.if-not-areas_fit.false a.job.now refl

pub clear-requires : goal.clear-requires
clear-requires c = c.run_in_areas-r.ensures.work

pub returns : goal.returns
returns c =
    let a = c.args in
    plain-ran (accepts a.job.now) a.trace.now a.end.now a.work.now
    (rw c.locations.ensures at c.areas_fit.ensures) c.if-not-areas_fit.false _
    c.run_in_areas-r.ensures c.plain_report.ensures c.clear.ensures
