-- `program::write_words` meets its contract. The invariant: the instructions left can be read, and writing their words gives what writing all
-- of them gives.
-- Assumes nothing.
use mathlib.Core.Path.{◌≡◌}
use mathlib.Core.Bool.{true}
use Prim.Native.Nat.{◌+◌, ◌-◌}
use lib.ListN.{length}
use lib.Seq.{sets}
use Rattle.rules.specs.Rules.JobFile.{program}
use Rattle.rules.specs.Theorems.Readers.{readable}
use Rattle.program.specs.Words.{words_from}
use Rattle.program.proofs.write_words.Given as goal

abbrev pub invariant-loop-label : goal.invariant-loop-label
invariant-loop-label l =
    (length l.table ≡ length l.initial.table)
    × (sets l.table (l.base + l.label) (words_from (l.n - l.label) l.p l.at) ≡ sets l.initial.table l.base (words_from l.n l.p 0))
    × (readable (program l.n (l.n - l.label) l.label l.p l.at) ≡ true)
