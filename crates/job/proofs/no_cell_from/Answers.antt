-- `job::no_cell_from` meets its contract. Assumes nothing.
use mathlib.Core.Path.{ap₂, ◌∙◌}
use Rattle.job.proofs.Laws.{none_on, next_none}
use Rattle.job.proofs.no_cell_from.Goals as goal

pub returns : goal.returns
returns c =
    let e = c.members_from.ensures in
    next_none _ _ _ _ c.next.ensures.steps c.is_none.ensures ∙ ap₂ none_on e.0 (e.1 ∙ c.new.ensures)
