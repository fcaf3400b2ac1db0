-- `token::held_after` meets its contract, by its three tests. Assumes nothing.
use Rattle.std.proofs.Common.{arith}
use Rattle.std.proofs.lemmas.Bool.Decides.{nat_tests}
use Rattle.rules.specs.Rules.Expressions.{after}
use Rattle.token.proofs.held_after.Goals as goal

pub returns-then-held-gt8 : goal.returns-then-held-gt8
unfolding after
returns-then-held-gt8 c = grind (arith, nat_tests)

pub returns : goal.returns
unfolding after
returns c = grind (arith, nat_tests)
