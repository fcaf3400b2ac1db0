-- `AcceptedJob::read` meets its contract: what was read of the bytes is what the type keeps. Assumes nothing.
use Rattle.std.proofs.Common.{ap}
use Rattle.job.specs.Accepting.{is_accepted}
use Rattle.job.specs.Answers.{read-accepted, read-public}
use Rattle.job.proofs.accepted.AcceptedJob.read.Goals as goal

pub invariant_of-result : goal.invariant_of-result
invariant_of-result c =
    let bs = c.args.bytes.now in
    let k = read-accepted bs c.read_job.ensures c.in_ok-read.was in
    record { parsed = ap is_accepted k.parsed; read = k.trailer; listed = read-public bs c.read_job.ensures c.in_ok-read.was }
