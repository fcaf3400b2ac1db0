-- `show` is safe and ends: what was printed is in the area. Assumes nothing.
use mathlib.Core.Path.{sym}
use Prim.Native.Nat.{ℕ, ◌≤◌}
use native.Mathlib.Omega.{arith}
use lib.ListN.{length, length-replicate}
use lib.Seq.{length-take-le}
use Rattle.show_text.proofs.Laws.{printed-within}
use Rattle.show_text.proofs.show.Goals as goal

pub slice_bounds-text-end : goal.slice_bounds-text-end
slice_bounds-text-end g c =
    let a = c.args in
    let within = printed-within a.job.now c.print_text.ensures c.in-Ok.is in
    omega (arith, within, length-replicate {A = ℕ} 114688 0)

pub slice_bounds-write_all-end : goal.slice_bounds-write_all-end
slice_bounds-write_all-end g c =
    let a = c.args in
    let within = printed-within a.job.now c.print_text.ensures c.in-Ok.is in
    let h : c.in-Ok.n ≤ length c.print_text.new.out = omega (arith, within, length-replicate {A = ℕ} 114688 0) in
    sym (length-take-le _ _ h)
