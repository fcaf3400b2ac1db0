-- `descriptor::bare` meets its contract. Assumes nothing.
use borrow.Author.Tests.{ne_eqb}
use Rattle.descriptor.proofs.bare.Goals as goal

pub returns-then-kind-eq0 : goal.returns-then-kind-eq0
returns-then-kind-eq0 c = λ p. rw c.if-kind-eq0.true

pub returns : goal.returns
returns c = λ p. rw (ne_eqb _ 0 c.if-kind-eq0.false)
