-- `descriptor::shape_of_one` meets its contract, by the token's byte. Assumes nothing.
use borrow.Author.Tests.{lt-ltb, le-ltb, ne_eqb}
use Rattle.descriptor.proofs.shape_of_one.Goals as goal

pub returns-then-b-lt16 : goal.returns-then-b-lt16
returns-then-b-lt16 c = rw (lt-ltb _ 16 c.if-b-lt16.true)

pub returns-then-b-eq16 : goal.returns-then-b-eq16
returns-then-b-eq16 c = rw c.if-b-eq16.true

pub returns : goal.returns
returns c = rw (le-ltb _ 16 c.if-b-lt16.false, ne_eqb _ 16 c.if-b-eq16.false)
