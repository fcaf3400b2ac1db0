-- `is_over` meets its contract. Assumes nothing.
use mathlib.Core.Path.{◌∙◌}
use borrow.Author.Tests.{ne_eqb}
use Rattle.execution.proofs.Machine.{over_zero, over_open}
use Rattle.execution.proofs.rule.is_over.Goals as goal

pub returns-then-c-eq0 : goal.returns-then-c-eq0
returns-then-c-eq0 c =
    over_zero _ _ _ c.if-c-eq0.true

pub returns-else-c-eq0 : goal.returns-else-c-eq0
returns-else-c-eq0 c = ne_eqb _ _ c.if-c-eq0.false ∙ over_open _ _ _ c.if-c-eq0.false
