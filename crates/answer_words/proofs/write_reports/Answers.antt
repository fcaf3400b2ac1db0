-- `write_reports` meets its contract. Assumes nothing.
use mathlib.Core.Path.{◌≡◌, ap, ◌∙◌}
use native.Mathlib.Omega.{arith}
use lib.ListN.{length}
use borrow.Author.Rules.{rules}
use Rattle.location.specs.Sets.{limit}
use Rattle.location.specs.declared.Members.{Members}
use Rattle.answer_words.proofs.Laws.{none-reported, reported-length, reported-next, all-reported}
use Rattle.answer_words.proofs.write_reports.Goals as goal

pub loop-l-init : goal.loop-l-init
loop-l-init c =
    let e = c.members-l-items.ensures in
    let f = c.into_iter-l-iterator.ensures.into_iter_gives in
    none-reported _ c.args.at (ap (λ (m : Members). m.set) f ∙ e.0) (ap (λ (m : Members). m.next) f ∙ e.1) c.requires.1

pub write_report-requires : goal.write_report-requires
write_report-requires c =
    let size = reported-length c.loop-l.invariant c.args.answer.now c.clear_reports.ensures in
    let next = c.in-Some.ensures.steps.1.0 in
    omega (arith, size, c.requires.0, next.below, c.index-i.ensures)

pub loop-l-preserved : goal.loop-l-preserved
loop-l-preserved c =
    let s = c.in-Some.ensures.steps in
    reported-next c.loop-l.invariant s.1.0 s.0 s.1.1 c.index-i.ensures c.write_report.ensures

pub shape_of-answer : goal.shape_of-answer
shape_of-answer c = reported-length c.loop-l.invariant c.args.answer.now c.clear_reports.ensures

pub returns : goal.returns
returns c =
    let a = c.args in
    let h : length a.firsts ≡ limit = search rules in
    all-reported c.loop-l.invariant a.answer.now c.clear_reports.ensures h c.in-None.ensures.steps.1.0
