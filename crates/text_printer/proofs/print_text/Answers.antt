-- `print_text` meets its contract: an accepted job is printed, any other refused, and such a call keeps its promise. Assumes nothing.
use native.Mathlib.Omega.{arith}
use Rattle.std.proofs.lemmas.Result.{err_from_is_err_and}
use Rattle.rules.proofs.Theorems.TextPromises.{print_promise}
use Rattle.text_printer.proofs.Calls.{refused-call}
use Rattle.text_printer.proofs.print_text.Goals as goal

pub returns : goal.returns
returns c =
    let a = c.args in
    print_promise a.job.now a.out.now (record { each = λ i. omega (arith, c.type_inv.job i) }) (rw c.in_ok-accepted.ensures.ok at c.print_accepted.ensures)

pub returns-in_err-accepted : goal.returns-in_err-accepted
returns-in_err-accepted c =
    let a = c.args in
    let f = a.job.now in
    let r = err_from_is_err_and c.from_residual.result c.from_residual.ensures.1 in
    rw (r.1, r.2)
    (print_promise f a.out.now (record { each = λ i. omega (arith, c.type_inv.job i) })
    (refused-call f _ c.in_err-accepted.ensures.err a.out.now))
