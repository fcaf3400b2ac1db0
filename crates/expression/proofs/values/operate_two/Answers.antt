-- `expression::values::operate_two` meets its contract: each arm is the operator at that place of the rules' table. Assumes nothing.
use Rattle.rules.specs.Rules.JobFile.{binary}
use Rattle.token.specs.Operators.{binary_default}
use Rattle.expression.proofs.values.operate_two.Goals as goal

pub returns-in-1 : goal.returns-in-1
unfolding binary
returns-in-1 c = rw c.in-1.is c.sub.ensures

pub returns-in-2 : goal.returns-in-2
unfolding binary
returns-in-2 c = rw c.in-2.is c.mul.ensures

pub returns-in-3 : goal.returns-in-3
unfolding binary
returns-in-3 c = rw c.in-3.is c.and.ensures

pub returns-in-4 : goal.returns-in-4
unfolding binary
returns-in-4 c = rw c.in-4.is c.or.ensures

pub returns-in-5 : goal.returns-in-5
unfolding binary
returns-in-5 c = rw c.in-5.is c.xor.ensures

pub returns-in-6 : goal.returns-in-6
unfolding binary
returns-in-6 c = rw c.in-6.is c.shl.ensures

pub returns-in-7 : goal.returns-in-7
unfolding binary
returns-in-7 c = rw c.in-7.is c.shr.ensures

pub returns-in-8 : goal.returns-in-8
unfolding binary
returns-in-8 c = rw c.in-8.is c.eq.ensures

pub returns-in-9 : goal.returns-in-9
unfolding binary
returns-in-9 c = rw c.in-9.is c.ult.ensures

pub returns-in_default : goal.returns-in_default
returns-in_default c =
    let m = c.in_default.in_default-own.rest in
    rw (binary_default _ m.0.0.0.0.0.0.0.0.1 m.0.0.0.0.0.0.0.1 m.0.0.0.0.0.0.1 m.0.0.0.0.0.1 m.0.0.0.0.1
    m.0.0.0.1 m.0.0.1 m.0.1 m.1) c.add.ensures
