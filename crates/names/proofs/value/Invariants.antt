-- `value` meets its contract. The invariant: the digits passed have the value x, so the answer is that of the bytes left after it.
-- Assumes nothing.
use Rattle.std.proofs.Common.{◌≡◌, ◌<◌, ◌^◌, drop}
use Rattle.names.specs.Meaning.{digits_number}
use Rattle.names.proofs.value.Given as goal

abbrev pub invariant-loop-byte : goal.invariant-loop-byte
invariant-loop-byte l = (l.x < 2 ^ 64) × (digits_number l.x (drop l.byte-index l.name) ≡ digits_number 0 l.name)
