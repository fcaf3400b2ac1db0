-- `expression::values::operate_one` meets its contract: each arm is the operator at that place of the rules' table. Assumes nothing.
use Rattle.rules.specs.Rules.JobFile.{unary}
use Rattle.token.specs.Operators.{unary_default}
use Rattle.expression.proofs.values.operate_one.Goals as goal

pub returns-in-1 : goal.returns-in-1
unfolding unary
returns-in-1 c = rw c.in-1.is c.not.ensures

pub returns-in_default : goal.returns-in_default
returns-in_default c = rw (unary_default _ c.in_default.in_default-own.rest.1) c.neg.ensures
