-- `find_digits` meets its contract. The invariant: the number's digits are those of what is left of it and then those written.
-- Assumes nothing.
use mathlib.Core.Path.{sym, ◌∙◌}
use native.Mathlib.Omega.{arith}
use lib.ListN.{length-set}
use Rattle.rules.specs.Rules.Listing.{decimal}
use Rattle.byte_writer.proofs.Digits.{found_none, found-positive, found-more, found_all}
use Rattle.byte_writer.proofs.find_digits.Goals as goal

pub loop-rest-init : goal.loop-rest-init
loop-rest-init c = (c.requires, found_none c.args.n c.args.buffer.now c.requires (omega arith))

pub overflow_sub-i : goal.overflow_sub-i
overflow_sub-i c =
    let v = c.loop-rest in
    found-positive v.i v.invariant.1 c.loop-rest-test.true

pub loop-rest-smaller : goal.loop-rest-smaller
loop-rest-smaller c =
    let v = c.loop-rest in
    omega (arith, found-positive v.i v.invariant.1 c.loop-rest-test.true)

pub loop-rest-preserved : goal.loop-rest-preserved
loop-rest-preserved c =
    let v = c.loop-rest in
    (simp length-set v.invariant.0, found-more v.i v.invariant.1 c.loop-rest-test.true)

pub shape_of-buffer : goal.shape_of-buffer
shape_of-buffer c = simp length-set (c.loop-rest.invariant.0 ∙ sym c.requires)

pub returns : goal.returns
unfolding decimal
returns c =
    let v = c.loop-rest in
    (omega arith, found_all v.i v.invariant.1 (omega arith))
