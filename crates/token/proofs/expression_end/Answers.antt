-- `token::expression_end` meets its contract. Assumes nothing.
use mathlib.Core.Path.{ap, ◌∙◌}
use Rattle.rules.specs.Theorems.Readers.{next_offset}
use Rattle.token.proofs.expression_end.Goals as goal

pub tokens_end-requires : goal.tokens_end-requires
tokens_end-requires c = rw c.expression_at.ensures c.requires

pub returns : goal.returns
returns c = c.tokens_end.ensures ∙ ap next_offset c.expression_at.ensures
