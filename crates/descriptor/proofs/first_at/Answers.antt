-- `descriptor::first_at` meets its contract, by the kind byte. Assumes nothing.
use borrow.Author.Tests.{ne_eqb}
use Rattle.descriptor.specs.Descriptors.{first_at}
use Rattle.descriptor.proofs.first_at.Goals as goal

pub returns-in-0 : goal.returns-in-0
unfolding first_at
returns-in-0 c = rw (← c.byte_at.ensures, c.in-0.is)

pub returns-in-4 : goal.returns-in-4
unfolding first_at
returns-in-4 c = rw (← c.byte_at.ensures, c.in-4.is) c.byte_at-in-4.ensures

pub returns-in-5 : goal.returns-in-5
unfolding first_at
returns-in-5 c = rw (← c.byte_at.ensures, c.in-5.is) c.byte_at-in-5.ensures

pub returns-in-7 : goal.returns-in-7
unfolding first_at
returns-in-7 c = rw (← c.byte_at.ensures, c.in-7.is)

pub returns-in_default : goal.returns-in_default
unfolding first_at
returns-in_default c =
    let h = c.in_default.in_default-own.rest in
    rw (← c.byte_at.ensures, ne_eqb _ 0 h.0.0.0.1, ne_eqb _ 4 h.0.0.1, ne_eqb _ 5 h.0.1, ne_eqb _ 7 h.1)
    c.byte_at-in_default.ensures
