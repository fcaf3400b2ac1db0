-- `descriptor::count_at` meets its contract. Assumes nothing.
use borrow.Author.Tests.{ne_eqb}
use Rattle.descriptor.specs.Descriptors.{count_at}
use Rattle.descriptor.proofs.count_at.Goals as goal

pub returns-then-p-at-eq4 : goal.returns-then-p-at-eq4
unfolding count_at
returns-then-p-at-eq4 c = rw c.if-p-at-eq4.true

pub returns : goal.returns
unfolding count_at
returns c = rw (ne_eqb _ 4 c.if-p-at-eq4.false)
