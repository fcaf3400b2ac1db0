-- `barrier` meets its contract. Assumes nothing.
use mathlib.Core.Path.{◌∙◌}
use Rattle.rules.specs.Cases.Document01.{barrier_program}
use Rattle.cases.proofs.Laws.{barrier_laid}
use Rattle.cases.proofs.barrier.Goals as goal

pub returns : goal.returns
unfolding barrier_program
returns c = c.lay_out.ensures ∙ barrier_laid
