-- `reports` meets its contract. Assumes nothing.
use mathlib.Core.Path.{ap, ◌∙◌}
use Rattle.location.specs.declared.Members.{Members}
use Rattle.firsts.proofs.Laws.{reports-none, reports-next, reports-all}
use Rattle.firsts.proofs.reports.Goals as goal

pub loop-l-init : goal.loop-l-init
loop-l-init c =
    let a = c.args in
    let e = c.members-l-items.ensures in
    let f = c.into_iter-l-iterator.ensures.into_iter_gives in
    let s = ap (λ (m : Members). m.set) f ∙ e.0 in
    (s, reports-none a.work.now a.full s (ap (λ (m : Members). m.next) f ∙ e.1) c.nothing-firsts.ensures)

pub loop-l-preserved : goal.loop-l-preserved
loop-l-preserved c =
    let a = c.args in
    let v = c.loop-l.invariant in
    let s = c.in-Some.ensures.steps in
    (s.0 ∙ v.0, reports-next a.work.now a.full v.1 v.0 s.1.0 s.0 s.1.1 c.index-i.ensures c.unpack.ensures)

pub returns : goal.returns
returns c =
    let a = c.args in
    reports-all a.work.now a.full c.loop-l.invariant.1 c.in-None.ensures.steps.1.0
