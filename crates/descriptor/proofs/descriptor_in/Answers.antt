-- `descriptor::descriptor_in` meets its contract. Assumes nothing.
use Rattle.descriptor.specs.Descriptors.{descriptor_in}
use borrow.Author.Rules.{rules}
use Rattle.descriptor.proofs.descriptor_in.Goals as goal

pub returns : goal.returns
unfolding descriptor_in
returns c = search rules
