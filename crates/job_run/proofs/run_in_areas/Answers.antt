-- `job_run::run_in_areas` meets its contract: the run is made and its last state is saved. Assumes nothing.
use mathlib.Core.Path.{refl}
use native.Mathlib.Omega.{arith}
use lib.ListN.{length-take}
use Rattle.job.specs.Answers.{accepts}
use Rattle.job_run.specs.Accepted.{accepted-limits, accepted_list, accepted-length}
use Rattle.job_run.proofs.Laws.{run_in}
use Rattle.job_run.proofs.run_in_areas.Goals as goal

pub load-requires : goal.load-requires
load-requires c =
    let k = accepts c.args.job.now in
    let e = accepted_list k in
    let f = accepted-length k in
    record { state = omega arith; room = c.requires.work }

pub slice_bounds-run-end : goal.slice_bounds-run-end
slice_bounds-run-end c =
    let k = accepts c.args.job.now in
    let l = length-take c.args.job.now.trailer.state c.args.job.now.bytes.now in
    let e = accepted_list k in
    let f = accepted-length k in
    omega arith

pub run-ran-requires : goal.run-ran-requires
run-ran-requires c =
    let job = c.args.job.now in
    c.load.ensures.ready _ refl

pub locations-requires : goal.locations-requires
locations-requires c =
    let l = (accepted-limits (accepts c.args.job.now)).cells in omega arith

pub save_state-requires : goal.save_state-requires
save_state-requires c =
    let a = c.args in
    let job = a.job.now in
    let l = (accepted-limits (accepts job)).cells in
    let o = c.load.ensures.runs a.mode _ _ _ _ _ refl c.run-ran.ensures in
    let s = o.size in
    let m = c.requires.work in
    let n = c.requires.end in
    (omega arith, omega arith, omega arith)

pub returns : goal.returns
returns c =
    let a = c.args in
    let job = a.job.now in
    let o = c.load.ensures.runs a.mode _ _ _ _ _ refl c.run-ran.ensures in
    run_in (accepts job) a.mode o (rw c.locations.ensures at c.save_state.ensures) c.requires.work
