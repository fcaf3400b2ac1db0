-- `plain_refused` meets its contract. Assumes nothing.
use mathlib.Core.Path.{ap}
use Rattle.std.specs.Prelude.{Err}
use Rattle.location.specs.declared.LocationSet.{LocationSet}
use Rattle.rules.specs.declared.PlainAnswer.{PlainAnswer}
use Rattle.rules.specs.Rules.Calls.{plain_refused}
use Rattle.checker.proofs.plain_refused.Goals as goal

pub returns : goal.returns
unfolding plain_refused
returns c = ap {B = PlainAnswer} (λ (g : LocationSet). record { outcome = Err c.args.n; plain = g }) c.empty.ensures
