-- `beginning` meets its contract. Assumes nothing.
use mathlib.Core.Path.{ap₂}
use Rattle.location.specs.declared.LocationSet.{LocationSet}
use Rattle.stepping.specs.declared.Progress.{Progress}
use Rattle.execution.specs.Starts.{beginning}
use Rattle.execution.proofs.beginning.Goals as goal

pub returns : goal.returns
unfolding beginning
returns c =
    ap₂ {C = Progress}
    (λ (f g : LocationSet). record {
      control = record { place = 0; depth = 0; log = 0; opened = 0; window = 1 };
      observations = 0;
      steps = 0;
      full = f;
      plain = g;
    })
    c.empty.ensures c.empty-2.ensures
