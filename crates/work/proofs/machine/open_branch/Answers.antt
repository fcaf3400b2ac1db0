-- `open_branch` meets its contract. Assumes nothing.
use native.Mathlib.Omega.{arith}
use Rattle.work.proofs.Moves.{fit-bound, open_bound, moved_to, open_law}
use Rattle.work.proofs.machine.open_branch.Goals as goal

pub push_branch-requires : goal.push_branch-requires
push_branch-requires c =
    let a = c.args in
    let p = c.requires in
    let b = open_bound a.work.now a.c a.wrong a.target a.window a.remaining p.fit p.left p.window_le_max_window in
    omega (arith, b, p.fit.room)

pub overflow_add-result : goal.overflow_add-result
overflow_add-result c = omega (arith, fit-bound c.requires.fit)

pub returns : goal.returns
returns c =
    let a = c.args in
    let p = c.requires in
    moved_to c.push_branch.ensures
    (open_law a.work.now a.c a.wrong a.target a.window a.remaining p.fit p.left p.window_le_max_window _ c.window_at.ensures)
