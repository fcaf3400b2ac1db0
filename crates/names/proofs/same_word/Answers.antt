-- `same_word` meets its contract. Assumes nothing.
use Rattle.std.proofs.Common.{◌∙◌}
use Rattle.names.proofs.Words.{same-bytes}
use Rattle.names.proofs.same_word.Goals as goal

pub returns : goal.returns
returns c = c.eq.ensures ∙ same-bytes c.args.name.now c.args.word.now
