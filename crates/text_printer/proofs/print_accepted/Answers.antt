-- `print_accepted` meets its contract: printing an accepted job is printing its program. Assumes nothing.
use native.Mathlib.Omega.{arith}
use lib.ListN.{length-take}
use Prim.Native.Nat.{ℕ}
use Rattle.job.specs.Answers.{accepts}
use Rattle.text_printer.proofs.Calls.{state-within, program-readable, count_most, accepted_call}
use Rattle.text_printer.proofs.print_accepted.Goals as goal

pub slice_bounds-print_program-end : goal.slice_bounds-print_program-end
slice_bounds-print_program-end c =
    let l = state-within (accepts c.args.job.now) in omega (arith, length-take {A = ℕ})

pub print_program-requires : goal.print_program-requires
print_program-requires c = let k = accepts c.args.job.now in (program-readable k, count_most k)

pub returns : goal.returns
returns c = rw (accepted_call (accepts c.args.job.now) c.args.out.now) c.print_program.ensures
