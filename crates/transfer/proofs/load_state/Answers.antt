-- `transfer::load_state` meets its contract. The invariant: the locations passed hold their words. Assumes nothing.
use native.Mathlib.Omega.{arith}
use Rattle.transfer.proofs.Laws.{loading-none, loading-more, loading-all}
use Rattle.transfer.proofs.load_state.Goals as goal

pub loop-loaded-init : goal.loop-loaded-init
loop-loaded-init c = let a = c.args in loading-none a.bytes.now a.at a.n a.work.now

pub loop-loaded-preserved : goal.loop-loaded-preserved
loop-loaded-preserved c =
    let a = c.args in
    let v = c.loop-loaded in
    loading-more a.bytes.now a.at a.n a.work.now v.work c.store_own.new.work v.loaded v.invariant c.new.result.0 c.word_at.result
    (omega arith) c.requires.2 c.requires.1 c.new.ensures c.word_at.ensures c.store_own.ensures

pub returns : goal.returns
returns c =
    let a = c.args in
    let v = c.loop-loaded in
    loading-all a.bytes.now a.at a.n a.work.now v.work _ v.loaded v.invariant (omega arith) c.requires.2 c.requires.1
    c.clear_table.ensures
