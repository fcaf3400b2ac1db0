-- `evaluation::constant_value` meets its contract. Assumes nothing.
use Rattle.rules.proofs.Theorems.SetsFirst.{tagged-equal}
use Rattle.evaluation.proofs.constant_value.Goals as goal

pub returns : goal.returns
returns c = tagged-equal c.constant_of.ensures c.empty.ensures
