-- `cost_of` meets its contract: the entry of a kind is its word. Assumes nothing.
use Rattle.work.proofs.Costs.{cost_at}
use Rattle.work.proofs.cost_of.Goals as goal

pub returns : goal.returns
returns c = cost_at c.args.work.now c.args.kind c.requires.0
