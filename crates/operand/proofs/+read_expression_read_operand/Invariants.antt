-- What is left of the text falls from call to call; an expression's first operand stands where the expression does. Assumes nothing.
use Rattle.std.proofs.Common.{◌+◌, ◌*◌, ◌-◌, length}
use Rattle.operand.proofs.+read_expression_read_operand.Given as goal

abbrev pub decreases-read_expression : goal.decreases-read_expression
decreases-read_expression l = 2 * (length l.text.now - l.p.at) + 1

abbrev pub decreases-read_operand : goal.decreases-read_operand
decreases-read_operand l = 2 * (length l.text.now - l.p.at)
