-- `instruction::read_label` meets its contract: both bytes lie before the end, or it is refused. Assumes nothing.
use Rattle.std.proofs.Common.{arith}
use Rattle.std.proofs.lemmas.Bool.Decides.{nat_tests}
use Rattle.rules.specs.Rules.JobFile.{word_of}
use Rattle.instruction.proofs.read_label.Goals as goal

pub returns-then-p-at : goal.returns-then-p-at
unfolding word_of
returns-then-p-at c = grind (arith, nat_tests)

pub returns : goal.returns
unfolding word_of
returns c = grind (arith, nat_tests)
