-- `observe` meets its contract. Assumes nothing.
use native.Mathlib.Numerals.{add-one}
use native.Mathlib.Omega.{arith}
use lib.ListN.{length-set}
use Rattle.stepping.proofs.observe.Goals as goal

pub bounds-trace-at-2 : goal.bounds-trace-at-2
bounds-trace-at-2 c = simp length-set (omega arith)

pub returns : goal.returns
returns c = rw add-one
