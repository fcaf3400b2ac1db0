-- `put_members` meets its contract. The invariant: what is left of the locations ends where all of them end. Assumes nothing.
use Prim.Native.Nat.{◌-◌}
use Rattle.location.specs.Sets.{limit}
use Rattle.rules.specs.Rules.Listing.{members}
use Rattle.byte_writer.specs.Writers.{Remains}
use Rattle.listing.proofs.put_members.Given as goal

abbrev pub invariant-loop-l : goal.invariant-loop-l
invariant-loop-l l = Remains l.initial.writer (members l.s 0 limit) l.writer (members l.s l.l (limit - l.l))
