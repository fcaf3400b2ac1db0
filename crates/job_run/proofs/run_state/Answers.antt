-- `run_state` meets its contract: the words are loaded, and the run is made from there. Assumes nothing.
use mathlib.Core.Path.{refl}
use native.Mathlib.Omega.{arith}
use lib.ListN.{length-take}
use Rattle.job.specs.Answers.{accepts}
use Rattle.job_run.specs.Accepted.{accepted_list, accepted-length}
use Rattle.job_run.proofs.run_state.Goals as goal

pub load-requires : goal.load-requires
load-requires c = c.requires

pub slice_bounds-run-end : goal.slice_bounds-run-end
slice_bounds-run-end c =
    let k = accepts c.args.job.now in
    let l = length-take c.args.job.now.trailer.state c.args.job.now.bytes.now in
    let e = accepted_list k in
    let f = accepted-length k in
    omega arith

pub run-requires : goal.run-requires
run-requires c =
    let job = c.args.job.now in
    c.load.ensures.ready _ refl

pub returns : goal.returns
returns c =
    let a = c.args in
    c.load.ensures.runs a.mode _ _ _ _ _ refl c.run.ensures
