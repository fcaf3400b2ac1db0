-- `descriptor::shape_of_three` meets its contract, by the bytes of the tokens. Assumes nothing.
use borrow.Author.Tests.{lt-ltb, le-ltb, ne_eqb}
use Rattle.descriptor.proofs.shape_of_three.Goals as goal

pub returns-then-byte_at-gt15 : goal.returns-then-byte_at-gt15
returns-then-byte_at-gt15 c = rw (← c.byte_at.ensures, lt-ltb 15 _ c.if-byte_at-gt15.true)

pub returns-then-byte_at-lt19 : goal.returns-then-byte_at-lt19
returns-then-byte_at-lt19 c =
    rw (
      ← c.byte_at.ensures,
      le-ltb 15 _ c.if-byte_at-gt15.false,
      ← c.byte_at-second.ensures,
      lt-ltb _ 16 c.if-second-lt16.true,
      ← c.byte_at-then-second-lt16.ensures,
      lt-ltb _ 19 c.if-byte_at-lt19.true,
    )

pub returns-then-second-lt16 : goal.returns-then-second-lt16
returns-then-second-lt16 c =
    rw (
      ← c.byte_at.ensures,
      le-ltb 15 _ c.if-byte_at-gt15.false,
      ← c.byte_at-second.ensures,
      lt-ltb _ 16 c.if-second-lt16.true,
      ← c.byte_at-then-second-lt16.ensures,
      le-ltb _ 19 c.if-byte_at-lt19.false,
    )

pub returns-then-second-ne16 : goal.returns-then-second-ne16
returns-then-second-ne16 c =
    rw (
      ← c.byte_at.ensures,
      le-ltb 15 _ c.if-byte_at-gt15.false,
      ← c.byte_at-second.ensures,
      le-ltb _ 16 c.if-second-lt16.false,
      ne_eqb _ 16 c.if-second-ne16.true,
    )

pub returns-then-byte_at-lt19-2 : goal.returns-then-byte_at-lt19-2
returns-then-byte_at-lt19-2 c =
    rw (
      ← c.byte_at.ensures,
      le-ltb 15 _ c.if-byte_at-gt15.false,
      ← c.byte_at-second.ensures,
      c.if-second-ne16.false,
      ← c.byte_at-2.ensures,
      lt-ltb _ 19 c.if-byte_at-lt19-2.true,
    )

pub returns : goal.returns
returns c =
    rw (
      ← c.byte_at.ensures,
      le-ltb 15 _ c.if-byte_at-gt15.false,
      ← c.byte_at-second.ensures,
      c.if-second-ne16.false,
      ← c.byte_at-2.ensures,
      le-ltb _ 19 c.if-byte_at-lt19-2.false,
    )
