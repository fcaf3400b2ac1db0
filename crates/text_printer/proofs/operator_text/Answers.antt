-- `operator_text` meets its contract: place by place. Assumes nothing.
use native.Mathlib.Omega.{arith}
use Rattle.rules.specs.Rules.Answers.{text}
use Rattle.rules.specs.Rules.JobFile.{binary}
use Rattle.token.specs.Operators.{binary_default}
use Rattle.text_printer.specs.Operands.{operator_part}
use Rattle.text_printer.proofs.operator_text.Goals as goal

pub returns-in-1 : goal.returns-in-1
unfolding operator_part binary text
returns-in-1 c = rw c.in-1.is

pub returns-in-2 : goal.returns-in-2
unfolding operator_part binary text
returns-in-2 c = rw c.in-2.is

pub returns-in-3 : goal.returns-in-3
unfolding operator_part binary text
returns-in-3 c = rw c.in-3.is

pub returns-in-4 : goal.returns-in-4
unfolding operator_part binary text
returns-in-4 c = rw c.in-4.is

pub returns-in-5 : goal.returns-in-5
unfolding operator_part binary text
returns-in-5 c = rw c.in-5.is

pub returns-in-6 : goal.returns-in-6
unfolding operator_part binary text
returns-in-6 c = rw c.in-6.is

pub returns-in-7 : goal.returns-in-7
unfolding operator_part binary text
returns-in-7 c = rw c.in-7.is

pub returns-in-8 : goal.returns-in-8
unfolding operator_part binary text
returns-in-8 c = rw c.in-8.is

pub returns-in-9 : goal.returns-in-9
unfolding operator_part binary text
returns-in-9 c = rw c.in-9.is

pub returns-in_default : goal.returns-in_default
unfolding operator_part binary text
returns-in_default c =
    rw (binary_default c.args.i (λ h. omega arith) (λ h. omega arith) (λ h. omega arith) (λ h. omega arith) (λ h. omega arith)
    (λ h. omega arith) (λ h. omega arith) (λ h. omega arith) (λ h. omega arith))
