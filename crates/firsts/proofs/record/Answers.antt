-- `record` meets its contract: of a set that lies within D there is nothing to record. Assumes nothing.
use mathlib.Core.Path.{sym, ◌∙◌}
use Rattle.firsts.proofs.Laws.{recorded-within}
use Rattle.firsts.proofs.record.Goals as goal

pub returns-then-subset : goal.returns-then-subset
returns-then-subset c =
    let a = c.args in
    sym (recorded-within _ a.full a.seen a.work.now (sym c.subset.ensures ∙ c.if-subset.true))
