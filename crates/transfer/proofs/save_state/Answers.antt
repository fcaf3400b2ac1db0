-- `transfer::save_state` meets its contract: the words of the table come after the values. Assumes nothing.
use Rattle.transfer.proofs.Laws.{state-saved}
use Rattle.transfer.proofs.save_state.Goals as goal

pub returns : goal.returns
returns c =
    let a = c.args in
    state-saved a.work.now a.area.now _ _ a.n c.requires.2 c.save_values.ensures c.save_table.ensures
