-- `skip` meets its contract. Assumes nothing.
use Rattle.stepping.proofs.Steps.{kept, kept_silently}
use Rattle.stepping.proofs.skip.Goals as goal

pub returns : goal.returns
returns c =
    let k = kept c.lowered_window-remaining.ensures c.go-next.ensures c.empty.ensures c.count_step.ensures in
    record { exact = k; carried = λ t cells live most. kept_silently live most k }
