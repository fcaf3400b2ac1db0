-- `read_lines` meets its contract. The invariant: what is left to do from the place on ends where the whole ends. Assumes nothing.
use native.Mathlib.Omega.{arith}
use Rattle.byte_writer.specs.Texts.{left-length}
use Rattle.text_reader.proofs.Scan.{passable, line-less, scan_starts, scan_goes_on, scan_faulty, scan_ends}
use Rattle.text_reader.proofs.read_lines.Goals as goal

pub loop-place-init : goal.loop-place-init
loop-place-init c = let a = c.args in scan_starts a.text.now a.n a.out.now

pub line_at-line-requires : goal.line_at-line-requires
line_at-line-requires c =
    let a = c.args in passable a.text.now c.loop-place.invariant.stands (omega arith) (omega arith)

pub read_line-requires : goal.read_line-requires
read_line-requires c =
    let i = c.loop-place.invariant in omega (arith, i.few, i.size)

pub loop-place-smaller : goal.loop-place-smaller
loop-place-smaller c =
    let a = c.args in line-less a.text.now c.loop-place.place c.line_at-line.ensures (omega arith)

pub returns-in_default : goal.returns-in_default
returns-in_default c =
    let a = c.args in
    let v = c.loop-place in
    scan_faulty a.text.now a.n a.out.now v.place c.line_at-line.ensures (omega arith) v.invariant c.in_default.ensures

pub loop-place-preserved : goal.loop-place-preserved
loop-place-preserved c =
    let a = c.args in
    let v = c.loop-place in
    scan_goes_on a.text.now a.n a.out.now v.place c.line_at-line.ensures (omega arith) v.invariant c.in-Some.ensures

pub shape_of-out : goal.shape_of-out
shape_of-out c = left-length c.loop-place.invariant.left

pub returns : goal.returns
returns c =
    let a = c.args in scan_ends a.text.now a.n a.out.now (omega arith) c.loop-place.invariant
