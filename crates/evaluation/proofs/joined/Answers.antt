-- `evaluation::joined` meets its contract. Assumes nothing.
use Rattle.rules.specs.Rules.Expressions.{tagged}
use Rattle.evaluation.proofs.joined.Goals as goal

pub returns : goal.returns
returns c = let a = c.args in λ t. tagged a.t.value (c.union.ensures t)
