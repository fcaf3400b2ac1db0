-- `record_new` meets its contract: word by word of the two sets. Assumes nothing.
use mathlib.Core.Path.{◌≡◌, refl, sym, ◌∙◌}
use native.Mathlib.Omega.{arith}
use borrow.Author.Rules.{rules}
use lib.ListN.{length}
use Rattle.firsts.specs.Recording.{recorded}
use Rattle.firsts.proofs.Laws.{words_step, words_over}
use Rattle.firsts.proofs.record_new.Goals as goal

pub loop-k-init : goal.loop-k-init
unfolding recorded
loop-k-init c = refl

pub loop-k-preserved : goal.loop-k-preserved
loop-k-preserved c =
    let a = c.args in
    let v = c.loop-k in
    let g = c.well_formed in
    let f : length a.full.words ≡ 4 = search (rules, g.1.0) in
    let s : length a.seen.words ≡ 4 = search (rules, g.1.1.0) in
    rw c.record_bits.ensures (words_step a.word a.seen.words a.full.words v.work v.k (omega arith) (omega arith) ∙ v.invariant)

pub returns : goal.returns
returns c =
    let a = c.args in
    let v = c.loop-k in
    let g = c.well_formed in
    let s : length a.seen.words ≡ 4 = search (rules, g.1.1.0) in
    sym (words_over a.word a.seen.words _ v.work _ v.k (omega arith)) ∙ v.invariant
