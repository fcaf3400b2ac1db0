-- The text of an accepted program by its bytes.
-- Assumes nothing.
use Rattle.std.specs.Prelude.{List, [], ℕ, length, get_or, Ok, Err}
use Rattle.rules.specs.declared.Refusal.TheVariants as refusals
use Rattle.rules.specs.Rules.Outcomes.{PrintAnswer}
use Rattle.rules.specs.Rules.Instructions.{Instr, skip, assign, load, store, jmp, beqz, cassign, spbarr, kind}
use Rattle.rules.specs.Rules.JobFile.{program}
use Rattle.rules.specs.Rules.Calls.{Called}
use Rattle.rules.specs.Rules.TextReading.{instruction_words}
use Rattle.rules.specs.Rules.TextPrinting.{program_text}
use Rattle.rules.specs.Rules.TextCalls.{output}
use Rattle.rules.specs.Theorems.Readers.{value_or}
use Rattle.text_printer.specs.Operands.{Printable}

-- what an accepted program says of the expressions of an instruction
abbrev pub PrintableInstr : Instr → Type 0
PrintableInstr skip = Unit
PrintableInstr (assign r e) = Printable e
PrintableInstr (load r e) = Printable e
PrintableInstr (store r e) = Printable e
PrintableInstr (jmp e) = Printable e
PrintableInstr (beqz r l) = Unit
PrintableInstr (cassign r c e) = Printable c × Printable e
PrintableInstr spbarr = Unit

-- the text of the n instructions of the bytes
unfoldable pub program_printed : List ℕ → ℕ → List ℕ
program_printed p n = program_text (value_or [] (program n n 0 p 0))

-- the word that begins an instruction's line
unfoldable pub word_text : Instr → List ℕ
word_text x = get_or instruction_words (kind x) []

-- what printing gives of an accepted program's text
unfoldable pub printed : List ℕ → List ℕ → Called PrintAnswer (List ℕ)
printed bytes area = output (Err refusals.Output) (Ok (length bytes)) bytes area
