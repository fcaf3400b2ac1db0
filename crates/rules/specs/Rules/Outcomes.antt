-- What each call answers: what it found, or the refusal.
-- Assumes nothing.
use Rattle.std.specs.Prelude.{ℕ, Result}
use Rattle.rules.specs.declared.Refusal.{Refusal}
use Rattle.rules.specs.declared.Verdict.{Verdict}
use Rattle.rules.specs.declared.PairWord.{PairWord}
use Rattle.rules.specs.declared.Counts.{Counts}
use Rattle.rules.specs.declared.PlainCounts.{PlainCounts}
use Rattle.rules.specs.declared.Judged.{Judged}
use Rattle.rules.specs.declared.Compared.{Compared}
use Rattle.rules.specs.declared.TestLoad.{TestLoad}
use Rattle.rules.specs.declared.ReadProgram.{ReadProgram}

abbrev pub RunOutcome : Type 0
RunOutcome = Result Judged Refusal

abbrev pub PlainOutcome : Type 0
PlainOutcome = Result PlainCounts Refusal

abbrev pub PairAnswer : Type 0
PairAnswer = Result Compared Refusal

abbrev pub TestLoadAnswer : Type 0
TestLoadAnswer = Result TestLoad Refusal

abbrev pub ReadAnswer : Type 0
ReadAnswer = Result ReadProgram Refusal

abbrev pub PrintAnswer : Type 0
PrintAnswer = Result ℕ Refusal

-- ---- by what each holds
abbrev pub judged : Counts → Verdict → Judged
judged counts verdict = record { counts = counts; verdict = verdict }

abbrev pub paired : PairWord → Counts → Counts → Compared
paired word first second = record { word = word; first = first; second = second }

abbrev pub read_as : ℕ → ℕ → ReadProgram
read_as bytes instructions = record { bytes = bytes; instructions = instructions }
