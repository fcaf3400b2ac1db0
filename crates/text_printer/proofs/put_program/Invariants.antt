-- `put_program` meets its contract. The invariant: the text of the instructions left ends where the whole text ends. Assumes nothing.
use mathlib.Core.Path.{◌≡◌}
use mathlib.Core.Bool.{true}
use Prim.Native.Nat.{◌-◌}
use Rattle.rules.specs.Rules.JobFile.{program}
use Rattle.rules.specs.Theorems.Readers.{readable}
use Rattle.byte_writer.specs.Writers.{Remains}
use Rattle.text_printer.specs.Programs.{program_printed}
use Rattle.text_printer.proofs.Programs.{text_left}
use Rattle.text_printer.proofs.put_program.Given as goal

abbrev pub invariant-loop : goal.invariant-loop
invariant-loop l =
    Remains l.initial.writer (program_printed l.p l.n) l.writer (text_left l.n l.p l.offset l.counter)
    × (readable (program l.n (l.n - l.counter) l.counter l.p l.offset) ≡ true)
