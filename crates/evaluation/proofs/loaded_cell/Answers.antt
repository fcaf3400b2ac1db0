-- `evaluation::loaded_cell` meets its contract: it reads the cell's words. Assumes nothing.
use Rattle.evaluation.proofs.Laws.{load_inside}
use Rattle.evaluation.proofs.loaded_cell.Goals as goal

pub returns : goal.returns
returns c code cells e h =
    let a = c.args in
    load_inside a.work.now cells a.a code e h c.new.ensures c.cell.ensures c.load.ensures
    c.joined.ensures
