-- `descriptor::shape_of_expression` meets its contract, by the token count. Assumes nothing.
use borrow.Author.Tests.{ne_eqb}
use Rattle.descriptor.proofs.shape_of_expression.Goals as goal

pub returns-then-count-eq1 : goal.returns-then-count-eq1
returns-then-count-eq1 c =
    rw (← c.byte_at-count.ensures, c.if-count-eq1.true, ← c.byte_at.ensures) c.shape_of_one.ensures

pub returns-then-count-eq3 : goal.returns-then-count-eq3
returns-then-count-eq3 c =
    rw (← c.byte_at-count.ensures, c.if-count-eq3.true) c.shape_of_three.ensures

pub returns : goal.returns
returns c = rw (← c.byte_at-count.ensures, ne_eqb _ 1 c.if-count-eq1.false, ne_eqb _ 3 c.if-count-eq3.false)
