-- `test_load` meets its contract: the answer and the areas are the rules', and such a call keeps its promise. Assumes nothing.
use native.Mathlib.Omega.{arith}
use Rattle.std.proofs.lemmas.Result.{err_from_is_err_and}
use Rattle.rules.specs.Rules.TestLoads.{test_load_lent}
use Rattle.rules.proofs.Theorems.TestLoads.{test_load_promise}
use Rattle.checker.proofs.Laws.{test_load_rejected}
use Rattle.checker.proofs.test_load.Goals as goal

pub returns : goal.returns
returns c =
    let a = c.args in
    let l = test_load_lent a.first_trace.now a.second_trace.now a.work.now a.state.now in
    test_load_promise a.job.now a.seed a.costs.now l (record { each = λ i. omega (arith, c.type_inv.job i) })
    (omega (arith, c.ranges)) (rw c.in_ok-accepted.ensures.ok at c.test_accepted.ensures)

pub returns-in_err-accepted : goal.returns-in_err-accepted
returns-in_err-accepted c =
    let a = c.args in
    let f = a.job.now in
    let l = test_load_lent a.first_trace.now a.second_trace.now a.work.now a.state.now in
    let r = err_from_is_err_and c.from_residual.result c.from_residual.ensures.1 in
    rw (r.1, r.2)
    (test_load_promise f a.seed a.costs.now l (record { each = λ i. omega (arith, c.type_inv.job i) })
    (omega (arith, c.ranges)) (test_load_rejected f a.seed a.costs.now _ c.in_err-accepted.ensures.err l))
