-- `read_lines` meets its contract. The invariant: what is left to do from the place on ends where the whole ends. Assumes nothing.
use Prim.Native.Nat.{◌+◌, ◌-◌}
use lib.ListN.{length}
use Rattle.text_reader.proofs.Scan.{Scanning}
use Rattle.text_reader.proofs.read_lines.Given as goal

abbrev pub invariant-loop-place : goal.invariant-loop-place
invariant-loop-place l = Scanning l.text l.n l.initial.out l.place l.count l.out l.to

abbrev pub decreases-loop-place : goal.decreases-loop-place
decreases-loop-place l = length l.text + 1 - l.place.at
