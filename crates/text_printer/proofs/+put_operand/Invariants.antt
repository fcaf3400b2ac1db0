-- The number of tokens falls from call to call. Assumes nothing.
use Rattle.text_printer.proofs.+put_operand.Given as goal

abbrev pub decreases-put_operand : goal.decreases-put_operand
decreases-put_operand l = l.k
