-- `descriptor::operator_place` meets its contract. Assumes nothing.
use borrow.Author.Tests.{ne_eqb}
use native.Mathlib.Omega.{arith}
use Rattle.descriptor.proofs.operator_place.Goals as goal

pub returns-then-shape-eq-REGISTER_CONSTANT : goal.returns-then-shape-eq-REGISTER_CONSTANT
returns-then-shape-eq-REGISTER_CONSTANT c = (rw c.if-shape-eq-REGISTER_CONSTANT.true, omega arith)

pub returns : goal.returns
returns c = (rw (ne_eqb _ 3 c.if-shape-eq-REGISTER_CONSTANT.false), omega arith)
