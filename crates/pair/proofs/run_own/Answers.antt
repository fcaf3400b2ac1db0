-- `pair::run_own` meets its contract: the job's bytes have its own state. Assumes nothing.
use native.Mathlib.Omega.{arith}
use Rattle.job.specs.Answers.{accepts}
use Rattle.job_run.specs.Accepted.{accepted_list, accepted-length}
use Rattle.pair.proofs.run_own.Goals as goal

pub run_state-requires : goal.run_state-requires
run_state-requires c =
    let k = accepts c.args.job.now in
    let e = accepted_list k in
    let f = accepted-length k in
    record { state = omega arith; room = c.requires }
