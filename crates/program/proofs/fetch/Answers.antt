-- `program::fetch` meets its contract. Assumes nothing.
use mathlib.Core.Path.{ap, ◌∙◌}
use Rattle.descriptor.specs.Descriptors.{descriptor_in}
use Rattle.program.proofs.fetch.Goals as goal

pub returns : goal.returns
returns c = c.descriptor_in.ensures ∙ ap descriptor_in c.word_of.ensures
