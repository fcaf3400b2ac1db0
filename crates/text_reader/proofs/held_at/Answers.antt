-- `held_at` meets its contract: a line is blank where it has no part. Assumes nothing.
use Rattle.std.proofs.Common.{drop, ◌∙◌}
use Rattle.rules.specs.Rules.Parts.{parts}
use Rattle.text_reader.proofs.Lines.{blank-held}
use Rattle.text_reader.proofs.held_at.Goals as goal

pub returns : goal.returns
returns c =
    let a = c.args in c.from.ensures ∙ blank-held (parts (drop a.at a.text.now)) c.ends_at.ensures
