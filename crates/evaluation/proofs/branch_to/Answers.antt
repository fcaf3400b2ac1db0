-- `evaluation::branch_to` meets its contract: the test is the rules'. Assumes nothing.
use borrow.Author.Tests.{eq-eqb, ne_eqb}
use Rattle.rules.specs.Rules.Plain.{branch_to}
use Rattle.evaluation.proofs.branch_to.Goals as goal

pub returns-then-t-eq0 : goal.returns-then-t-eq0
unfolding branch_to
returns-then-t-eq0 c = rw (eq-eqb _ _ c.if-t-eq0.true) c.index.ensures

pub returns : goal.returns
unfolding branch_to
returns c = rw (ne_eqb _ _ c.if-t-eq0.false)
