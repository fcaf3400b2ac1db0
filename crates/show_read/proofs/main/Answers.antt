-- `main` is safe and ends: what was read is in the buffer. Assumes nothing.
use native.Mathlib.Omega.{arith}
use Rattle.show_read.proofs.main.Goals as goal

pub slice_bounds-buffer-end : goal.slice_bounds-buffer-end
slice_bounds-buffer-end c =
    let r = c.read_file in
    let within = rw c.in-Some.is at r.ensures in
    omega (arith, within, r.auto.buffer)
