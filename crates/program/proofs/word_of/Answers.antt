-- `program::word_of` meets its contract. Assumes nothing.
use mathlib.Core.Path.{ap}
use Prim.Native.Nat.{ℕ, ◌+◌}
use lib.ListN.{get_or}
use Rattle.program.proofs.word_of.Goals as goal

pub returns : goal.returns
returns c =
    let a = c.args in
    ap (λ (i : ℕ). get_or a.table.now (a.base + i) 0) c.index.ensures
