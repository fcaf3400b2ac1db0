-- `nested` meets its contract. Assumes nothing.
use mathlib.Core.Path.{◌∙◌}
use Rattle.cases.proofs.Laws.{nested_laid}
use Rattle.cases.proofs.nested.Goals as goal

pub returns : goal.returns
returns c = c.lay_out.ensures ∙ nested_laid c.args.label
