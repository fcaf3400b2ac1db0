-- A call on routines as text that is exact keeps its whole promise.
-- Assumes nothing.
use Rattle.std.specs.Prelude.{◌≡◌, refl, Bool, false, ℕ, ◌≤◌, length, take, Ok, Err}
use Rattle.std.proofs.Common.{sym, ◌∙◌, arith, length-take-le}
use Rattle.std.proofs.Math.Path.{ap}
use Rattle.std.proofs.Math.Bool.{true}
use mathlib.Core.List.{List}
use Rattle.std.proofs.Math.Option.{Option, none, some}
use Rattle.std.proofs.Math.Dec.{leb}
use Rattle.std.proofs.Math.Seq.{take_at}
use borrow.Author.Tests.{le-leb}
use Rattle.rules.specs.declared.Refusal.TheVariants as refusals
use Rattle.rules.specs.declared.ReadProgram.{ReadProgram}
use Rattle.rules.specs.Rules.Outcomes.{PrintAnswer, ReadAnswer, read_as}
use Rattle.rules.specs.Rules.Instructions.{Instr}
use Rattle.rules.specs.Rules.Runs.{Job}
use Rattle.rules.specs.Rules.Answers.{read_refusal, print_refusal}
use Rattle.rules.specs.Rules.JobFile.{Parsed, accepted, rejected, parse, trailer}
use Rattle.rules.specs.Rules.Encoding.{program_bytes, Bytes}
use Rattle.rules.specs.Rules.Calls.{Called, written}
use Rattle.rules.specs.Rules.Demands.{Exact, Unaltered}
use Rattle.rules.specs.Rules.TextReading.{read_text}
use Rattle.rules.specs.Rules.TextPrinting.{program_text}
use Rattle.rules.specs.Rules.TextCalls.{output, read_program, read_call, print_parsed, print_call}
use Rattle.rules.specs.Rules.TextPromises.{ReadsAs, Acceptable, ReadPromise, RoundTrip, PrintPromise}
use Rattle.rules.proofs.Theorems.JobLaws.{passed, job-end, state_list, list_length}
use Rattle.rules.proofs.Theorems.CallLaws.{carried_out, left_alone, exact-unaltered}
use Rattle.rules.proofs.Theorems.Encoded.{program-encoded}
use Rattle.rules.proofs.Theorems.TextAccepted.{text-accepted}
use Rattle.rules.proofs.Theorems.TextTrip.{text-restores}
use Rattle.rules.proofs.Theorems.Outcomes.{refused-done, same-done}

-- ---- bytes for an area that has room for them, and for one that has none
module _ {A : Type 0} (short done : A) (bytes area : List ℕ) where
  pub output_done : leb (length bytes) (length area) ≡ true → output short done bytes area ≡ record { answer = done; areas = written bytes area }
  unfolding output
  output_done e = rw (e, output)

  pub output_short : leb (length bytes) (length area) ≡ false → output short done bytes area ≡ record { answer = short; areas = area }
  unfolding output
  output_short e = rw (e, output)

  output-unaltered : (refusal : A → ℕ) → refusal done ≡ 0
      → Unaltered refusal (output short done bytes area).answer area (output short done bytes area).areas
  output-unaltered refusal z = go (leb (length bytes) (length area)) refl
    where
      go : (b : Bool) → leb (length bytes) (length area) ≡ b
          → Unaltered refusal (output short done bytes area).answer area (output short done bytes area).areas
      go true e = carried_out refusal (output short done bytes area) area (rw (output_done e) z)
      go false e = left_alone refusal (output short done bytes area) area (ap (λ (c : Called A (List ℕ)). c.areas) (output_short e))

-- ---- reading
read-unaltered : (text area : List ℕ) → Unaltered read_refusal (read_call text area).answer area (read_call text area).areas
unfolding read_call read_program
read-unaltered text area = go (read_text text)
  where
    go : (R : Option (List Instr)) → Unaltered read_refusal (read_program R area).answer area (read_program R area).areas
    go none = left_alone read_refusal (read_program none area) area refl
    go (some xs) =
        output-unaltered (Err refusals.Output) (Ok (read_as (length (program_bytes xs)) (length xs))) (program_bytes xs) area read_refusal refl

-- what was read
record Reads (text area : List ℕ) (k n : ℕ) : Type 0 where
  prog : List Instr
  parsed : read_text text ≡ some prog
  size : length (program_bytes prog) ≡ k
  count : length prog ≡ n
  areas : (read_call text area).areas ≡ written (program_bytes prog) area

was_read : (text area : List ℕ) (k n : ℕ) → (read_call text area).answer ≡ Ok (read_as k n) → Reads text area k n
unfolding read_call read_program
was_read text area k n = go (read_text text) refl
  where
    fits : (xs : List Instr) → read_text text ≡ some xs → (b : Bool) → leb (length (program_bytes xs)) (length area) ≡ b
        → (read_program (some xs) area).answer ≡ Ok (read_as k n) → Reads text area k n
    fits xs e true l h =
        let bytes = program_bytes xs in
        let done = output_done (Err refusals.Output) (Ok (read_as (length bytes) (length xs))) bytes area l in
        let same : Ok (read_as (length bytes) (length xs)) ≡ Ok (read_as k n) = rw done at h in
        record {
          prog = xs;
          parsed = e;
          size = ap (λ (x : ReadProgram). x.bytes) (same-done same);
          count = ap (λ (x : ReadProgram). x.instructions) (same-done same);
          areas = ap (λ (R : Option (List Instr)). (read_program R area).areas) e ∙ ap (λ (c : Called ReadAnswer (List ℕ)). c.areas) done;
        }
    fits xs e false l h =
        let bytes = program_bytes xs in
        refused-done (rw (output_short (Err refusals.Output) (Ok (read_as (length bytes) (length xs))) bytes area l) at h)

    go : (R : Option (List Instr)) → read_text text ≡ R → (read_program R area).answer ≡ Ok (read_as k n) → Reads text area k n
    go none e h = refused-done h
    go (some xs) e h = fits xs e (leb (length (program_bytes xs)) (length area)) refl h

read-accepted : (text before : List ℕ) → Acceptable (read_call text before).answer (read_call text before).areas
read-accepted text before = record { program = λ {k} {n} h. go k n (was_read text before k n h) }
  where
    go : (k n : ℕ) → Reads text before k n → ReadsAs (take k (read_call text before).areas) n
    go k n r =
        let bytes = program_bytes r.prog in
        let front : take k (read_call text before).areas ≡ bytes = ap (take k) r.areas ∙ unfold written in take_at bytes _ k r.size in
        record { prog = r.prog; read = rw (front, ← r.count) (text-accepted text r.parsed) }

pub read-promise : (text before : List ℕ) {r : ReadAnswer} {after : List ℕ} → Exact (read_call text before) r after → ReadPromise text before r after
read-promise text before x = record {
  exact = x;
  unaltered = exact-unaltered read_refusal (read_call text before) before x (read-unaltered text before);
  accepted = rw (x.answer, x.areas) (read-accepted text before);
}

-- ---- printing
print_unaltered : (job area : List ℕ) → Unaltered print_refusal (print_call job area).answer area (print_call job area).areas
unfolding print_call print_parsed
print_unaltered job area = go (parse job)
  where
    go : (P : Parsed) → Unaltered print_refusal (print_parsed P area).answer area (print_parsed P area).areas
    go (rejected n) = left_alone print_refusal (print_parsed (rejected n) area) area refl
    go (accepted j) =
        output-unaltered (Err refusals.Output) (Ok (length (program_text j.code.prog))) (program_text j.code.prog) area
        print_refusal refl

-- the text of an accepted job's program, read into an area that has room for the program
module _ (f : List ℕ) (j : Job) (e : parse f ≡ accepted j) (all : Bytes f) where
  encoded-length : length (program_bytes j.code.prog) ≡ (trailer f).state
  encoded-length =
      let p = passed f j e in
      let s = state_list p in
      let l = list_length p in
      let z : (trailer f).state ≤ length f = omega arith in
      ap length (sym (program-encoded f j e all)) ∙ length-take-le (trailer f).state f z

  pub text-read : (area : List ℕ) → (trailer f).state ≤ length area → read_call (program_text j.code.prog) area
      ≡ record { answer = Ok (read_as (trailer f).state (trailer f).count); areas = written (take (trailer f).state f) area }
  unfolding read_call read_program
  text-read area h =
      let xs = j.code.prog in
      let size = encoded-length in
      let fits : leb (length (program_bytes xs)) (length area) ≡ true = le-leb (length (program_bytes xs)) (length area) (omega arith) in
      ap (λ (R : Option (List Instr)). read_program R area) (text-restores f j e all)
      ∙ output_done (Err refusals.Output) (Ok (read_as (length (program_bytes xs)) (length xs))) (program_bytes xs) area fits
      ∙ rw (size, job-end (passed f j e), ← program-encoded f j e all)

-- what was printed
record Prints (f area : List ℕ) (n : ℕ) : Type 0 where
  job : Job
  parsed : parse f ≡ accepted job
  size : length (program_text job.code.prog) ≡ n
  areas : (print_call f area).areas ≡ written (program_text job.code.prog) area

printed : (f area : List ℕ) (n : ℕ) → (print_call f area).answer ≡ Ok n → Prints f area n
unfolding print_call print_parsed
printed f area n = go (parse f) refl
  where
    fits : (j : Job) → parse f ≡ accepted j → (b : Bool) → leb (length (program_text j.code.prog)) (length area) ≡ b
        → (print_parsed (accepted j) area).answer ≡ Ok n → Prints f area n
    fits j e true l h =
        let bytes = program_text j.code.prog in
        let done = output_done (Err refusals.Output) (Ok (length bytes)) bytes area l in
        let same : Ok (length bytes) ≡ Ok n = rw done at h in
        record {
          job = j;
          parsed = e;
          size = cc;
          areas = ap (λ (P : Parsed). (print_parsed P area).areas) e ∙ ap (λ (c : Called PrintAnswer (List ℕ)). c.areas) done;
        }
    fits j e false l h =
        let bytes = program_text j.code.prog in
        refused-done (rw (output_short (Err refusals.Output) (Ok (length bytes)) bytes area l) at h)

    go : (P : Parsed) → parse f ≡ P → (print_parsed P area).answer ≡ Ok n → Prints f area n
    go (rejected r) e h = refused-done h
    go (accepted j) e h = fits j e (leb (length (program_text j.code.prog)) (length area)) refl h

round_trip_lem : (f before : List ℕ) → Bytes f → RoundTrip f (print_call f before).answer (print_call f before).areas
round_trip_lem f before all = record { restores = λ {n} h area l. go n (printed f before n h) area l }
  where
    go : (n : ℕ) → Prints f before n → (area : List ℕ) → (trailer f).state ≤ length area
        → Exact (read_call (take n (print_call f before).areas) area) (Ok (read_as (trailer f).state (trailer f).count))
        (written (take (trailer f).state f) area)
    go n p area l =
        let bytes = program_text p.job.code.prog in
        let text : take n (print_call f before).areas ≡ bytes = ap (take n) p.areas ∙ unfold written in take_at bytes _ n p.size in
        let call = ap (λ (t : List ℕ). read_call t area) text ∙ text-read f p.job p.parsed all area l in
        record {
          answer = ap (λ (c : Called ReadAnswer (List ℕ)). c.answer) (sym call);
          areas = ap (λ (c : Called ReadAnswer (List ℕ)). c.areas) (sym call);
        }

pub print_promise : (job before : List ℕ) {r : PrintAnswer} {after : List ℕ} → Bytes job → Exact (print_call job before) r after
    → PrintPromise job before r after
print_promise job before all x = record {
  exact = x;
  unaltered = exact-unaltered print_refusal (print_call job before) before x (print_unaltered job before);
  round_trip = rw (x.answer, x.areas) (round_trip_lem job before all);
}
