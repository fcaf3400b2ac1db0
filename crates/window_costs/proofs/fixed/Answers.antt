-- `window_costs::fixed` meets its contract: the crate's table is the rules'. Assumes nothing.
use mathlib.Core.Path.{refl}
use Rattle.rules.specs.Rules.Instructions.{window_costs}
use Rattle.window_costs.proofs.fixed.Goals as goal

pub returns : goal.returns
unfolding window_costs
returns c = refl
