-- `transfer::alike_bytes` meets its contract. The invariant: the states are alike at the locations passed, so the answer is that of
-- the locations left. Assumes nothing.
use mathlib.Core.Path.{◌≡◌}
use Prim.Native.Nat.{◌+◌, ◌-◌, ◌*◌}
use Rattle.rules.specs.Rules.JobFile.{words_at}
use Rattle.rules.specs.Rules.Pairs.{alike_from}
use Rattle.transfer.proofs.alike_bytes.Given as goal

abbrev pub invariant-loop-l : goal.invariant-loop-l
invariant-loop-l l =
    alike_from l.public l.l (words_at (l.n - l.l) l.first (l.at + 8 * l.l)) (words_at (l.n - l.l) l.second (8 * l.l))
    ≡ alike_from l.public 0 (words_at l.n l.first l.at) (words_at l.n l.second 0)
