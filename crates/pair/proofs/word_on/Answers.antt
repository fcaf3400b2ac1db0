-- `pair::word_on` meets its contract. Assumes nothing.
use Prim.Native.Nat.{ℕ}
use native.Mathlib.Omega.{arith}
use lib.ListN.{length-take}
use Rattle.job.specs.Answers.{accepts}
use Rattle.job_run.specs.Accepted.{accepted-limits, accepted_list, accepted-length}
use Rattle.pair.proofs.Laws.{word-found}
use Rattle.pair.proofs.word_on.Goals as goal

pub locations-requires : goal.locations-requires
locations-requires c =
    let l = (accepted-limits (accepts c.args.job.now)).cells in omega arith

pub alike_bytes-alike-requires : goal.alike_bytes-alike-requires
alike_bytes-alike-requires c =
    let k = accepts c.args.job.now in
    let e = accepted_list k in
    let f = accepted-length k in
    let s = c.requires.sized in
    (omega arith, omega arith)

pub overflow_mul-c : goal.overflow_mul-c
overflow_mul-c c =
    let f = c.requires.first_fits in omega (arith, f, c.well_formed)

pub overflow_mul-d : goal.overflow_mul-d
overflow_mul-d c =
    let f = c.requires.second_fits in omega (arith, f, c.well_formed)

pub slice_bounds-pair_word-end : goal.slice_bounds-pair_word-end
slice_bounds-pair_word-end c =
    let f = c.requires.first_fits in omega (arith, length-take {A = ℕ})

pub slice_bounds-pair_word-end-2 : goal.slice_bounds-pair_word-end-2
slice_bounds-pair_word-end-2 c =
    let f = c.requires.second_fits in omega (arith, length-take {A = ℕ})

pub returns : goal.returns
returns c =
    let a = c.args in
    word-found a.job.now a.second.now a.first_trace.now a.second_trace.now a.c a.d
    (rw c.locations.ensures at c.alike_bytes-alike.ensures) c.pair_word.ensures
