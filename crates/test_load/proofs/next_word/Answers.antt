-- `next_word` meets its contract: the operations of xorshift in their order. Assumes nothing.
use Rattle.test_load.proofs.Laws.{next-made}
use Rattle.test_load.proofs.next_word.Goals as goal

pub returns : goal.returns
returns c =
    next-made c.args.x c.shl.ensures c.xor-y.ensures c.shr.ensures c.xor-z.ensures c.shl-2.ensures
    c.xor.ensures
