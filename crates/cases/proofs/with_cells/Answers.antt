-- `with_cells` meets its contract: the cells are a byte. Assumes nothing.
use mathlib.Core.Path.{◌∙◌}
use Rattle.rules.specs.Cases.Document01.{printed_program}
use Rattle.cases.proofs.Laws.{many_cells_laid}
use borrow.Author.Rules.{rules}
use Rattle.cases.proofs.with_cells.Goals as goal

pub returns : goal.returns
unfolding printed_program
returns g c =
    c.lay_out.ensures ∙ many_cells_laid c.args.cells _ c.requires.le_cells (search rules) c.requires.n_holds
