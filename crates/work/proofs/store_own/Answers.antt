-- `store_own` meets its contract: the word that is written last makes the set of the location of the empty set. Assumes nothing.
use Rattle.work.proofs.Laws.{own_law}
use Rattle.work.proofs.store_own.Goals as goal

pub returns : goal.returns
returns c =
    let a = c.args in
    own_law a.work.now c.store_at.new.work a.value a.l.0 c.index-k.result c.empty.result c.requires.l_lt_limit
    c.index-k.ensures c.empty.ensures c.store_at.ensures
