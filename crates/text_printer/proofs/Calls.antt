-- What printing answers: 12 or the text of an accepted program, or the job's refusal.
-- Assumes nothing.
use mathlib.Core.Path.{◌≡◌, refl, ap, ◌∙◌}
use mathlib.Core.Bool.{Bool, true, false}
use mathlib.Core.List.{List}
use Prim.Native.Nat.{ℕ, ◌<◌, ◌≤◌}
use native.Mathlib.Omega.{arith}
use lib.Dec.{leb}
use lib.ListN.{length, take}
use borrow.Author.Tests.{le-leb, lt-leb}
use Rattle.std.specs.Prelude.{Ok, Err}
use Rattle.rules.specs.declared.Trailer.{Trailer}
use Rattle.rules.specs.declared.Refusal.{Refusal}
use Rattle.rules.specs.declared.Refusal.TheVariants as refusals
use Rattle.rules.specs.Rules.Outcomes.{PrintAnswer}
use Rattle.rules.specs.Rules.Limits.{max_instructions}
use Rattle.rules.specs.Rules.JobFile.{rejected, got, program, program_of, trailer, parse}
use Rattle.rules.specs.Rules.Calls.{Called, written}
use Rattle.rules.specs.Rules.TextCalls.{output, print_parsed, print_call}
use Rattle.rules.specs.Rules.Demands.{Exact}
use Rattle.rules.specs.Theorems.Readers.{readable}
use Rattle.rules.proofs.Theorems.JobLaws.{Passed, passed, limits-hold, state_list, list_length}
use Rattle.byte_writer.specs.Writing.{Put}
use Rattle.byte_writer.specs.Areas.{put-fits}
use Rattle.job.specs.Answers.{Accepts}
use Rattle.text_printer.specs.Programs.{program_printed, printed}

-- ---- an accepted program's text: it does not fit, or it was written
module _ (bytes area : List ℕ) {n : ℕ} (counted : n ≡ length bytes) where
  by : Bool → Called PrintAnswer (List ℕ)
  by b =
      elim b [
        | true ↦ record { answer = Ok (length bytes); areas = written bytes area }
        | false ↦ record { answer = Err refusals.Output; areas = area }
      ]

  printed-by : (b : Bool) → leb (length bytes) (length area) ≡ b → printed bytes area ≡ by b
  unfolding printed output by
  printed-by b e = ap by e

  pub printed_short : length area < n → Exact (printed bytes area) (Err refusals.Output) area
  unfolding by
  printed_short l =
      rw (printed-by false (lt-leb (length bytes) (length area) (omega arith))) record { answer = refl; areas = refl }

  pub printed-whole : {after : List ℕ} {m : ℕ} → n ≤ length area → Put area 0 bytes after m → Exact (printed bytes area) (Ok n) after
  unfolding by
  printed-whole {after} {m} l p =
      let fits : length bytes ≤ length area = omega arith in
      rw (printed-by true (le-leb (length bytes) (length area) fits)) record { answer = ap (λ (k : ℕ). Ok k) counted; areas = put-fits p fits }

-- ---- a job that was accepted: its program was read, and printing it is printing the job
module _ {bs : List ℕ} {t : Trailer} (a : Accepts bs t) where
  pass : Passed bs a.job
  pass = passed bs a.job a.parsed

  pub state-within : t.state ≤ length bs
  state-within = rw a.trailer (omega (arith, state_list pass, list_length pass))

  program-read : program t.count t.count 0 (take t.state bs) 0 ≡ got a.job.code.prog pass.next
  unfolding program_of
  program-read = ap (λ (u : Trailer). program u.count u.count 0 (take u.state bs) 0) a.trailer ∙ pass.read

  pub program-readable : readable (program t.count t.count 0 (take t.state bs) 0) ≡ true
  unfolding readable
  program-readable = rw program-read

  pub count_most : t.count ≤ max_instructions
  count_most = rw a.trailer (limits-hold (trailer bs) pass.limits).count_most

  pub accepted_call : (area : List ℕ) → print_call bs area ≡ printed (program_printed (take t.state bs) t.count) area
  unfolding print_call print_parsed program_printed printed
  accepted_call area = rw (a.parsed, program-read)

-- ---- a refused job
pub refused-call : (bs : List ℕ) (r : Refusal) → parse bs ≡ rejected r → (area : List ℕ) → Exact (print_call bs area) (Err r) area
unfolding print_call print_parsed
refused-call bs r e area = rw e record { answer = refl; areas = refl }
