-- `descriptor::jump_at` meets its contract: the expression stands where the rules read it. Assumes nothing.
use mathlib.Core.Path.{sym}
use Rattle.token.specs.Meaning.{tokens_of}
use Rattle.instruction.specs.Fields.{jump-parts}
use Rattle.descriptor.proofs.jump_at.Goals as goal

pub expression_at-requires : goal.expression_at-requires
expression_at-requires c = let a = c.args in (jump-parts a.p.now a.at c.requires).0

pub returns : goal.returns
unfolding tokens_of
returns c = let a = c.args in rw c.expression_at.ensures (sym (jump-parts a.p.now a.at c.requires).1)
