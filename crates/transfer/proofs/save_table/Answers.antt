-- `transfer::save_table` meets its contract. The invariant: storing the words of the entries left gives what storing the whole table gives.
-- Assumes nothing.
use mathlib.Core.Path.{sym, ◌∙◌}
use Prim.Native.Nat.{◌+◌, ◌*◌}
use native.Mathlib.Omega.{arith}
use Rattle.transfer.proofs.Laws.{entries_more, entries_all, entries_none}
use Rattle.transfer.proofs.save_table.Goals as goal

pub loop-i-preserved : goal.loop-i-preserved
loop-i-preserved c =
    let a = c.args in
    let v = c.loop-i in
    entries_more a.work.now v.area _ a.n v.i (omega arith) c.save_entry.ensures ∙ v.invariant

pub returns : goal.returns
returns c =
    let a = c.args in
    let v = c.loop-i in
    let count = c.entry_count-count in
    sym (entries_none a.work.now v.area (a.n + 1 + 2 * v.i) v.i (omega arith)) ∙ v.invariant
    ∙ entries_all a.work.now a.area.now a.n count.result count.ensures
