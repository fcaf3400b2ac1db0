-- `find_digits` meets its contract. The invariant: the number's digits are those of what is left of it and then those written.
-- Assumes nothing.
use mathlib.Core.Path.{◌≡◌}
use lib.ListN.{length}
use Rattle.byte_writer.proofs.Digits.{Found}
use Rattle.byte_writer.proofs.find_digits.Given as goal

abbrev pub invariant-loop-rest : goal.invariant-loop-rest
invariant-loop-rest l = (length l.buffer ≡ 20) × Found l.n l.buffer l.rest l.i

abbrev pub decreases-loop-rest : goal.decreases-loop-rest
decreases-loop-rest l = l.i
