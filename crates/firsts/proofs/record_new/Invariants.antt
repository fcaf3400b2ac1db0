-- `record_new` meets its contract. The invariant: what is left to record gives the words that are wanted. Assumes nothing.
use mathlib.Core.Path.{◌≡◌}
use Prim.Native.Nat.{◌+◌, ◌*◌}
use lib.ListN.{drop}
use Rattle.work.specs.Layout.{reports}
use Rattle.firsts.specs.Recording.{recorded_from, recorded}
use Rattle.firsts.proofs.record_new.Given as goal

abbrev pub invariant-loop-k : goal.invariant-loop-k
invariant-loop-k l =
    recorded_from l.word (drop l.k l.seen.words) (drop l.k l.full.words) l.work (reports + 64 * l.k) ≡ recorded l.word l.full l.seen l.initial.work
