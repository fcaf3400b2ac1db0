-- `put_firsts` meets its contract. The invariant: what is left of the locations ends where all of them end. Assumes nothing.
use Prim.Native.Nat.{◌-◌}
use Rattle.location.specs.Sets.{limit}
use Rattle.rules.specs.Rules.Listing.{first_lines}
use Rattle.byte_writer.specs.Writers.{Remains}
use Rattle.listing.proofs.put_firsts.Given as goal

abbrev pub invariant-loop-l : goal.invariant-loop-l
invariant-loop-l l = Remains l.initial.writer (first_lines l.s l.firsts 0 limit) l.writer (first_lines l.s l.firsts l.l (limit - l.l))
