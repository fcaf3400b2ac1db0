-- `sign_text` meets its contract: place by place. Assumes nothing.
use native.Mathlib.Omega.{arith}
use Rattle.rules.specs.Rules.Answers.{text}
use Rattle.rules.specs.Rules.JobFile.{unary}
use Rattle.token.specs.Operators.{unary_default}
use Rattle.text_printer.specs.Operands.{sign_part}
use Rattle.text_printer.proofs.sign_text.Goals as goal

pub returns-in-1 : goal.returns-in-1
unfolding sign_part unary text
returns-in-1 c = rw c.in-1.is

pub returns-in_default : goal.returns-in_default
unfolding sign_part unary text
returns-in_default c = rw (unary_default c.args.i (λ h. omega arith))
