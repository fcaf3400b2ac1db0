-- `token::two_bytes` meets its contract: the sum is the number in the two bytes. Assumes nothing.
use native.Mathlib.Omega.{arith}
use Rattle.rules.specs.Rules.JobFile.{little}
use Rattle.token.proofs.two_bytes.Goals as goal

pub returns : goal.returns
unfolding little
returns c = (omega arith, omega arith)
