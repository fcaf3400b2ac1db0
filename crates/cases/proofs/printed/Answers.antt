-- `printed` meets its contract: r0, the window and the budget are bytes. Assumes nothing.
use mathlib.Core.Path.{◌∙◌}
use Rattle.rules.specs.Cases.Document01.{printed_program}
use Rattle.cases.proofs.Laws.{printed_laid}
use borrow.Author.Rules.{rules}
use Rattle.cases.proofs.printed.Goals as goal

pub returns : goal.returns
unfolding printed_program
returns c =
    let a = c.args in
    c.lay_out.ensures ∙ printed_laid a.r0 a.window a.budget (search rules) (search rules) (search rules)
