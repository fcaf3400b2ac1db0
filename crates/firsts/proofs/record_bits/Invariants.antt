-- `record_bits` meets its contract. The invariant: what is left to record gives the words that are wanted. Assumes nothing.
use mathlib.Core.Path.{◌≡◌}
use Prim.Native.Nat.{◌+◌, ◌-◌}
use Rattle.firsts.specs.Recording.{recorded_bits}
use Rattle.firsts.proofs.record_bits.Given as goal

abbrev pub invariant-loop-at : goal.invariant-loop-at
invariant-loop-at l =
    recorded_bits l.word l.s l.f l.work l.at (l.from + 64 - l.at) ≡ recorded_bits l.word l.seen l.full l.initial.work l.from 64
