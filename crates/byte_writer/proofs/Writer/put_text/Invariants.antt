-- `Writer::put_text` meets its contract. The invariant: what is left of the bytes ends where all of them end. Assumes nothing.
use lib.ListN.{drop}
use Rattle.byte_writer.specs.Writers.{Remains}
use Rattle.byte_writer.proofs.Writer.put_text.Given as goal

abbrev pub invariant-loop-byte : goal.invariant-loop-byte
invariant-loop-byte l = Remains l.initial.self l.bytes l.self (drop l.byte-index l.bytes)
