-- `count_lines` meets its contract. The invariant: what was counted, with the lines that go on from the place, is the whole. Assumes nothing.
use Prim.Native.Nat.{◌+◌, ◌-◌}
use lib.ListN.{length}
use Rattle.text_reader.proofs.Scan.{Counting}
use Rattle.text_reader.proofs.count_lines.Given as goal

abbrev pub invariant-loop-place : goal.invariant-loop-place
invariant-loop-place l = Counting l.text l.place l.held

abbrev pub decreases-loop-place : goal.decreases-loop-place
decreases-loop-place l = length l.text + 1 - l.place.at
