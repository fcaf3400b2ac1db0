-- `descriptor::is_bare` meets its contract. Assumes nothing.
use mathlib.Core.Path.{refl}
use Rattle.descriptor.specs.Descriptors.{descriptor_in}
use Rattle.descriptor.proofs.is_bare.Goals as goal

pub returns : goal.returns
unfolding descriptor_in
returns c = refl
