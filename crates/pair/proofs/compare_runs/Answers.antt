-- `pair::compare_runs` meets its contract: two runs one after the other over the same working words. Assumes nothing.
use Rattle.pair.proofs.Laws.{own-ran, ready_again, exact-compared}
use Rattle.pair.proofs.compare_runs.Goals as goal

pub run_own-own-requires : goal.run_own-own-requires
run_own-own-requires c = c.requires.ready.work

pub run_second-other-requires : goal.run_second-other-requires
run_second-other-requires c =
    let a = c.args in
    let o = c.run_own-own.ensures in
    (record { ready = ready_again a.job.now a.costs.now o c.requires.ready; sized = c.requires.sized }, own-ran a.job.now a.costs.now o)

pub returns : goal.returns
returns c =
    let a = c.args in
    exact-compared a.job.now a.costs.now c.requires c.run_own-own.ensures c.run_second-other.ensures
