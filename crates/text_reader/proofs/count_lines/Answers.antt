-- `count_lines` meets its contract. The invariant: what was counted, with the lines that go on from the place, is the whole. Assumes nothing.
use native.Mathlib.Omega.{arith}
use Rattle.text_reader.proofs.Scan.{passable, line-less, count_starts, held_small, count_goes_on, count-ends}
use Rattle.text_reader.proofs.count_lines.Goals as goal

pub loop-place-init : goal.loop-place-init
loop-place-init c = count_starts c.args.text.now

pub line_at-line-requires : goal.line_at-line-requires
line_at-line-requires c =
    let a = c.args in passable a.text.now c.loop-place.invariant.stands (omega arith) (omega arith)

pub overflow_add-held : goal.overflow_add-held
overflow_add-held c =
    let a = c.args in
    let v = c.loop-place in
    let small = held_small a.text.now v.place c.line_at-line.ensures (omega arith) c.held_at-held.ensures in
    let i = v.invariant in omega (arith, i.few, i.stands.lines)

pub loop-place-smaller : goal.loop-place-smaller
loop-place-smaller c =
    let a = c.args in line-less a.text.now c.loop-place.place c.line_at-line.ensures (omega arith)

pub loop-place-preserved : goal.loop-place-preserved
loop-place-preserved c =
    let a = c.args in
    let v = c.loop-place in count_goes_on a.text.now v.place c.line_at-line.ensures (omega arith) c.held_at-held.ensures v.invariant

pub returns : goal.returns
returns c =
    let a = c.args in count-ends a.text.now (omega arith) c.loop-place.invariant
