-- `run_new_state` meets its contract: the state is written, and the pair's second run reads it back. Assumes nothing.
use native.Mathlib.Omega.{arith}
use Rattle.location.specs.Sets.{union}
use Rattle.job.specs.Answers.{accepts}
use Rattle.job_run.specs.Accepted.{accepted-limits, accepted_list, accepted-length}
use Rattle.test_load.proofs.Laws.{second-sized, new-state_ran}
use Rattle.test_load.proofs.run_new_state.Goals as goal

pub locations-n-requires : goal.locations-n-requires
locations-n-requires c =
    let l = (accepted-limits (accepts c.args.job.now)).cells in omega arith

pub write_state-requires : goal.write_state-requires
write_state-requires c =
    let k = c.requires.0 in
    let n = c.locations-n.ensures in
    let e = accepted_list (accepts c.args.job.now) in
    let f = accepted-length (accepts c.args.job.now) in
    let s = k.state in
    (omega arith, omega arith)

pub overflow_mul-second : goal.overflow_mul-second
overflow_mul-second c =
    let n = c.locations-n.ensures in
    let l = (accepted-limits (accepts c.args.job.now)).cells in omega arith

pub run_second-requires : goal.run_second-requires
run_second-requires c =
    let a = c.args in
    let k = c.requires in (
      record {
        ready = k.0.ready;
        sized = second-sized a.job.now c.write_state.ensures.bytes c.union-kept.result a.seed
            (omega (arith, c.ranges)) a.state.now c.locations-n.ensures c.write_state.ensures.state;
      },
      k.1,
    )

pub returns : goal.returns
returns c =
    let a = c.args in
    new-state_ran a.job.now c.write_state.ensures.bytes (union a.job.now.public a.plain) a.seed
    (omega (arith, c.ranges)) a.state.now c.locations-n.ensures (rw c.union-kept.ensures at c.write_state.ensures.state)
    c.run_second.ensures
