-- `descriptor::is_skip` meets its contract. Assumes nothing.
use Rattle.descriptor.proofs.Laws.{skip_tested}
use Rattle.descriptor.proofs.is_skip.Goals as goal

pub returns : goal.returns
returns c = skip_tested _
