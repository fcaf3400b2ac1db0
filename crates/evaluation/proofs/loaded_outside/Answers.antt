-- `evaluation::loaded_outside` meets its contract: it reads what is remembered. Assumes nothing.
use Rattle.evaluation.proofs.Laws.{load-outside}
use Rattle.evaluation.proofs.loaded_outside.Goals as goal

pub returns : goal.returns
returns c code cells e h =
    let a = c.args in
    load-outside a.work.now cells a.a code e h c.new.ensures c.recall.ensures c.joined.ensures
