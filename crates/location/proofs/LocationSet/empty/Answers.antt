-- `LocationSet::empty` meets its contract. Assumes nothing.
use mathlib.Core.Path.{refl}
use Rattle.location.specs.Sets.{empty, none}
use Rattle.location.proofs.LocationSet.empty.Goals as goal

pub returns : goal.returns
unfolding empty none
returns c = refl
