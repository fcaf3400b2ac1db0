-- `descriptor::constant_place` meets its contract. Assumes nothing.
use borrow.Author.Tests.{ne_eqb}
use native.Mathlib.Omega.{arith}
use Rattle.descriptor.proofs.constant_place.Goals as goal

pub returns-then-shape-eq-REGISTER_CONSTANT : goal.returns-then-shape-eq-REGISTER_CONSTANT
returns-then-shape-eq-REGISTER_CONSTANT c = (rw c.if-shape-eq-REGISTER_CONSTANT.true, omega arith)

pub returns-then-shape-eq-JUMP_CONSTANT : goal.returns-then-shape-eq-JUMP_CONSTANT
returns-then-shape-eq-JUMP_CONSTANT c = (rw c.if-shape-eq-JUMP_CONSTANT.true, omega arith)

pub returns : goal.returns
returns c = (rw (ne_eqb _ 3 c.if-shape-eq-REGISTER_CONSTANT.false, ne_eqb _ 5 c.if-shape-eq-JUMP_CONSTANT.false), omega arith)
