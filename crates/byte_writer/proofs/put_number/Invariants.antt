-- `put_number` meets its contract. The invariant: the bytes of what is left of the number end where all of them end. Assumes nothing.
use Prim.Native.Nat.{◌-◌}
use Rattle.rules.specs.Rules.Encoding.{bytes_of}
use Rattle.byte_writer.specs.Texts.{Left}
use Rattle.byte_writer.proofs.put_number.Given as goal

abbrev pub invariant-loop : goal.invariant-loop
invariant-loop l = Left l.initial.out l.at (bytes_of l.k l.n) l.out l.next (bytes_of (l.k - l.counter) l.rest)
