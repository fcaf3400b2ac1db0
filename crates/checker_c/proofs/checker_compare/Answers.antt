-- `checker_compare` meets its contract. Assumes nothing.
use Rattle.checker_c.proofs.Laws.{pair-refused, pair_returned}
use Rattle.checker_c.proofs.checker_compare.Goals as goal

pub returns-in-Err : goal.returns-in-Err
returns-in-Err c =
    pair-refused c.compare.ensures c.in-Err.is c.from.ensures

pub returns-in-Ok : goal.returns-in-Ok
returns-in-Ok c =
    pair_returned c.compare.ensures c.in-Ok.is c.write_pair.ensures
