-- `token::read_token` meets its contract: the token that stands there, or refusal 4. Assumes nothing.
use mathlib.Core.Path.{sym, ◌∙◌}
use Rattle.token.specs.Readable.{unreadable-refused}
use Rattle.token.proofs.read_token.Goals as goal

pub token_at-requires : goal.token_at-requires
token_at-requires c = sym c.stands.ensures ∙ c.if-stands.true

pub returns : goal.returns
returns c =
    sym (unreadable-refused c.args.p.now c.args.at (sym c.stands.ensures ∙ c.if-stands.false))
