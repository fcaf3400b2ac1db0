-- `roll_back` meets its contract. Assumes nothing.
use native.Mathlib.Omega.{arith}
use Rattle.work.specs.Words.{count_in, number_at, change_at}
use Rattle.work.proofs.States.{log_numbers}
use Rattle.work.proofs.Moves.{fit-bound, roll_law}
use Rattle.work.proofs.machine.roll_back.Goals as goal

pub load_branch-top-requires : goal.load_branch-top-requires
load_branch-top-requires c =
    let f = c.requires.fit in
    omega (arith, fit-bound f, f.room)

pub undo-requires : goal.undo-requires
undo-requires c =
    let a = c.args in
    let f = c.requires.fit in record {
      count_in_bounds = omega (arith, fit-bound f, f.room);
      by_index = λ j m. log_numbers (number_at a.work.now) (change_at a.work.now) a.c.log (count_in a.work.now) f.log j;
    }

pub returns : goal.returns
returns c =
    let a = c.args in
    let p = c.requires in
    let y = c.load_branch-top in
    let u = c.undo in
    roll_law a.work.now u.new.work a.c y.result p.fit p.depth_nonzero y.ensures u.ensures
