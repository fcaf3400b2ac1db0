-- `roll_back` meets its contract: the move, its observations and the counts are rule 1. Assumes nothing.
use Rattle.stepping.proofs.Steps.{rolled-back}
use Rattle.stepping.proofs.roll_back.Goals as goal

pub returns : goal.returns
returns c =
    rolled-back c.roll_back-r.ensures c.requires.0.opened c.observe_branch.ensures c.empty.ensures
    c.count_step.ensures
