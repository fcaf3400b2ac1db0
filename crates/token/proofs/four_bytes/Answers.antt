-- `token::four_bytes` meets its contract: the sum is the number in the bytes of both reads. Assumes nothing.
use native.Mathlib.Omega.{arith}
use Rattle.token.proofs.Laws.{little_join}
use Rattle.token.proofs.four_bytes.Goals as goal

pub returns : goal.returns
returns c =
    let a = c.args in
    let joined = little_join a.s.now a.at 2 2 in
    (omega arith, omega arith)
