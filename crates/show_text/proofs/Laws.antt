-- A text that was printed is within its area.
-- Assumes nothing.
use mathlib.Core.Path.{◌≡◌, refl, sym, ◌∙◌}
use mathlib.Core.Bool.{Bool, true, false}
use mathlib.Core.List.{List}
use Prim.Native.Nat.{ℕ, ◌≤◌}
use native.Mathlib.Omega.{arith}
use lib.Dec.{leb}
use lib.ListN.{length}
use borrow.Author.Tests.{leb-true}
use Rattle.std.specs.Prelude.{Ok, Err}
use Rattle.rules.specs.declared.Refusal.{Refusal}
use Rattle.rules.specs.Rules.Outcomes.{PrintAnswer}
use Rattle.rules.specs.Rules.JobFile.{Parsed, accepted, rejected, parse}
use Rattle.rules.specs.Rules.TextPrinting.{program_text}
use Rattle.rules.specs.Rules.TextCalls.{output, print_parsed, print_call}
use Rattle.rules.specs.Rules.TextPromises.{PrintPromise}
use Rattle.rules.proofs.Theorems.Outcomes.{refused-done, same-done}
use Rattle.rules.proofs.Theorems.TextPromises.{output_done, output_short}

output-within : (short : Refusal) (bytes area : List ℕ) {n : ℕ}
    → (output {A = PrintAnswer} (Err short) (Ok (length bytes)) bytes area).answer ≡ Ok n → n ≤ length area
output-within short bytes area {n} e = go (leb (length bytes) (length area)) refl e
  where
    go : (b : Bool) → leb (length bytes) (length area) ≡ b
        → (output {A = PrintAnswer} (Err short) (Ok (length bytes)) bytes area).answer ≡ Ok n → n ≤ length area
    go true l e =
        let k : length bytes ≡ n = same-done (rw (output_done (Err short) (Ok (length bytes)) bytes area l) at e) in
        let z : length bytes ≤ length area = leb-true _ _ l in
        omega arith
    go false l e = refused-done (rw (output_short (Err short) (Ok (length bytes)) bytes area l) at e)

pub printed-within : (job : List ℕ) {before after : List ℕ} {r : PrintAnswer} {n : ℕ} → PrintPromise job before r after → r ≡ Ok n
    → n ≤ length before
unfolding print_call print_parsed
printed-within job {before} {after} {r} {n} p e = go (parse job) (sym p.exact.answer ∙ e)
  where
    go : (P : Parsed) → (print_parsed P before).answer ≡ Ok n → n ≤ length before
    go (rejected c) e = refused-done e
    go (accepted j) e = output-within _ (program_text j.code.prog) before e
