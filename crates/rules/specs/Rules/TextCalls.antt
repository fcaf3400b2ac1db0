-- What the two calls on routines as text return, and what they leave in the area of bytes that they are lent.
-- Assumes nothing.
use Rattle.std.specs.Prelude.{true, false, List, ℕ, leb, length, Ok, Err}
use Rattle.std.proofs.Math.Option.{Option, none, some}
use Rattle.rules.specs.declared.Refusal.TheVariants as refusals
use Rattle.rules.specs.Rules.Outcomes.{PrintAnswer, ReadAnswer, read_as}
use Rattle.rules.specs.Rules.Instructions.{Instr}
use Rattle.rules.specs.Rules.JobFile.{Parsed, accepted, rejected, parse}
use Rattle.rules.specs.Rules.Encoding.{program_bytes}
use Rattle.rules.specs.Rules.Calls.{Called, written}
use Rattle.rules.specs.Rules.TextReading.{read_text}
use Rattle.rules.specs.Rules.TextPrinting.{program_text}

-- an answer with these bytes from the front of the area, or 12: "output area too short, tested last"
unfoldable pub output : {A : Type 0} → A → A → List ℕ → List ℕ → Called A (List ℕ)
output short done bytes area =
    elim (leb (length bytes) (length area)) [
      | true ↦ record { answer = done; areas = written bytes area }
      | false ↦ record { answer = short; areas = area }
    ]

-- ---- reading: "Reading returns the byte and instruction counts"; "11, text outside these rules"
unfoldable pub read_program : Option (List Instr) → List ℕ → Called ReadAnswer (List ℕ)
read_program none area = record { answer = Err refusals.Text; areas = area }
read_program (some xs) area =
    output (Err refusals.Output) (Ok (read_as (length (program_bytes xs)) (length xs))) (program_bytes xs) area

unfoldable pub read_call : List ℕ → List ℕ → Called ReadAnswer (List ℕ)
read_call text area = read_program (read_text text) area

-- ---- printing: "Printing takes a job, refused by 1 to 8"; "printing the byte count"
unfoldable pub print_parsed : Parsed → List ℕ → Called PrintAnswer (List ℕ)
print_parsed (rejected r) area = record { answer = Err r; areas = area }
print_parsed (accepted job) area =
    let bytes = program_text job.code.prog in
    output (Err refusals.Output) (Ok (length bytes)) bytes area

unfoldable pub print_call : List ℕ → List ℕ → Called PrintAnswer (List ℕ)
print_call job area = print_parsed (parse job) area
