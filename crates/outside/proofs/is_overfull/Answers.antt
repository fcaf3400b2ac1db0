-- `is_overfull` meets its contract: there is room, or it is by whether the address was found. Assumes nothing.
use mathlib.Core.Path.{sym}
use native.Mathlib.Omega.{arith}
use Rattle.outside.proofs.Laws.{room-left, overfull-by}
use Rattle.outside.proofs.is_overfull.Goals as goal

pub returns-then-count-lt-MAX_ENTRIES : goal.returns-then-count-lt-MAX_ENTRIES
returns-then-count-lt-MAX_ENTRIES c =
    let a = c.args in
    let h = c.if-count-lt-MAX_ENTRIES.true in
    let k = c.entry_count-count.ensures in
    sym (room-left a.work.now a.a.0 (omega arith))

pub returns : goal.returns
returns c =
    let a = c.args in
    overfull-by a.work.now a.a.0 c.is_none.result c.find.result c.is_none.ensures c.find.ensures c.entry_count-count.ensures
    c.if-count-lt-MAX_ENTRIES.false
