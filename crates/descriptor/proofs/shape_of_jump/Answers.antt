-- `descriptor::shape_of_jump` meets its contract. Assumes nothing.
use borrow.Author.Tests.{lt-ltb, le-ltb, ne_eqb}
use Rattle.descriptor.proofs.shape_of_jump.Goals as goal

pub returns-then-byte_at-ne1 : goal.returns-then-byte_at-ne1
returns-then-byte_at-ne1 c = rw (← c.byte_at.ensures, ne_eqb _ 1 c.if-byte_at-ne1.true)

pub returns-then-token-lt16 : goal.returns-then-token-lt16
returns-then-token-lt16 c =
    rw (← c.byte_at.ensures, c.if-byte_at-ne1.false, ← c.byte_at-token.ensures, lt-ltb _ 16 c.if-token-lt16.true)

pub returns-then-token-ne16 : goal.returns-then-token-ne16
returns-then-token-ne16 c =
    rw (
      ← c.byte_at.ensures,
      c.if-byte_at-ne1.false,
      ← c.byte_at-token.ensures,
      le-ltb _ 16 c.if-token-lt16.false,
      ne_eqb _ 16
          c.if-token-ne16.true,
    )

pub returns : goal.returns
returns c =
    rw (← c.byte_at.ensures, c.if-byte_at-ne1.false, ← c.byte_at-token.ensures, c.if-token-ne16.false)
