-- `run_load` meets its contract: the own run alone, or the new state's run after it. Assumes nothing.
use native.Mathlib.Omega.{arith}
use Rattle.pair.proofs.Laws.{own-ran, ready_again}
use Rattle.test_load.proofs.Laws.{exact-unfinished, exact-made}
use Rattle.test_load.proofs.run_load.Goals as goal

pub run_own-own-requires : goal.run_own-own-requires
run_own-own-requires c = c.requires.0.ready.work

pub clear-requires : goal.clear-requires
clear-requires c =
    let z = c.run_own-own.ensures.size in
    let h = c.requires.0.ready.work in
    omega arith

pub returns-then-not-finished : goal.returns-then-not-finished
returns-then-not-finished c =
    let a = c.args in
    exact-unfinished a.job.now a.costs.now c.requires.0 c.requires.1 c.run_own-own.ensures c.finished.ensures c.if-not-finished.true c.clear.ensures

pub run_new_state-other-requires : goal.run_new_state-other-requires
run_new_state-other-requires c =
    let a = c.args in
    let k = c.requires.0 in
    let o = c.run_own-own.ensures in
    (record { ready = ready_again a.job.now a.costs.now o k.ready; state = k.state }, own-ran a.job.now a.costs.now o)

pub returns : goal.returns
returns c =
    let a = c.args in
    exact-made a.job.now a.costs.now c.requires.0 c.requires.1 c.run_own-own.ensures c.finished.ensures c.if-not-finished.false
    c.run_new_state-other.ensures
