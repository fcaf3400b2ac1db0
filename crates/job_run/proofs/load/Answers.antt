-- `load` meets its contract: a run from the words is that of the job with the table and the state. Assumes nothing.
use mathlib.Core.Path.{refl}
use native.Mathlib.Omega.{arith}
use lib.ListN.{length-take}
use Rattle.rules.proofs.Theorems.Costs.{fit_length}
use Rattle.job.specs.Answers.{accepts}
use Rattle.job_run.specs.Accepted.{accepted-limits, accepted_list, accepted-length}
use Rattle.job_run.proofs.Laws.{program-accepted, prepared, loaded_for}
use Rattle.job_run.proofs.load.Goals as goal

pub locations-requires : goal.locations-requires
locations-requires c =
    let l = (accepted-limits (accepts c.args.job.now)).cells in omega arith

pub load_state-requires : goal.load_state-requires
load_state-requires c =
    let r = c.requires in
    let l = (accepted-limits (accepts c.args.job.now)).cells in
    let s = r.state in
    let m = r.room in
    (omega arith, omega arith, omega arith)

pub store_costs-requires : goal.store_costs-requires
store_costs-requires c =
    let costs = c.args.costs.now in
    let n = fit_length costs.entries.now costs.fit in
    let s = c.load_state.ensures.size in
    let m = c.requires.room in
    omega arith

pub slice_bounds-write_words-end : goal.slice_bounds-write_words-end
slice_bounds-write_words-end c =
    let k = accepts c.args.job.now in
    let l = length-take c.args.job.now.trailer.state c.args.job.now.bytes.now in
    let e = accepted_list k in
    let f = accepted-length k in
    omega arith

pub write_words-requires : goal.write_words-requires
write_words-requires c =
    let job = c.args.job.now in
    let k = accepts job in
    let l = accepted-limits k in
    let n = l.count_most in
    let m = c.requires.room in
    let s = (prepared (let h = l.cells in omega arith) c.args.costs.now.fit m (rw c.locations.ensures at c.load_state.ensures)
    c.store_costs.ensures).size in
    let q = program-accepted k refl in
    (q.0, q.1, omega arith)

pub returns : goal.returns
returns c =
    let job = c.args.job.now in
    let k = accepts job in
    let l = accepted-limits k in
    let n = l.count_most in
    let m = c.requires.room in
    let p = prepared (let h = l.cells in omega arith) c.args.costs.now.fit m (rw c.locations.ensures at c.load_state.ensures)
    c.store_costs.ensures in
    let s = p.size in
    loaded_for k refl (omega arith) c.args.costs.now.fit p c.write_words.ensures m
