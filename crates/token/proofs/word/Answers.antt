-- `token::word` meets its contract: the sum is the number in the bytes of both reads. Assumes nothing.
use native.Mathlib.Omega.{arith}
use Rattle.token.proofs.Laws.{little_join}
use Rattle.token.proofs.word.Goals as goal

pub returns : goal.returns
returns c =
    let a = c.args in
    let joined = little_join a.s.now a.at 4 4 in
    omega arith
