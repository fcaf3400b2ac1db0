-- `descriptor::with_register_at` meets its contract: the register and the expression stand where the rules read them. Assumes nothing.
use mathlib.Core.Path.{sym, ◌∙◌}
use Rattle.token.specs.Meaning.{tokens_of}
use Rattle.instruction.specs.Fields.{with_parts}
use Rattle.descriptor.proofs.with_register_at.Goals as goal

pub returns : goal.returns
unfolding tokens_of
returns g c = λ f m h.
    m.means _ _ _ c.make.ensures ∙ rw c.expression_at.ensures (sym (with_parts f c.args.p.now c.args.at h).value)
