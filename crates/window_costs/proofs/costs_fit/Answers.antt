-- `window_costs::costs_fit` meets its contract: each entry is tested, of a table of the right length. Assumes nothing.
use mathlib.Core.Path.{◌∙◌}
use borrow.Author.Tests.{ne_eqb, tests}
use borrow.Author.Rules.{rules}
use Rattle.std.proofs.lemmas.Iterator.{YieldsList-from_slice}
use Rattle.std.proofs.lemmas.Iterator.Search.{all_from_yields_List}
use Rattle.window_costs.proofs.Laws.{entry_fits, kinds_tested, other_length}
use Rattle.window_costs.proofs.costs_fit.Goals as goal

pub returns-then-costs-eq-KINDS : goal.returns-then-costs-eq-KINDS
returns-then-costs-eq-KINDS c =
    all_from_yields_List entry_fits _ _ _ c.all.ensures.ran (YieldsList-from_slice c.args.costs.now cc) (λ x b q k. search (rules, tests))
    ∙ kinds_tested c.args.costs.now c.if-costs-eq-KINDS.true

pub returns-else-costs-eq-KINDS : goal.returns-else-costs-eq-KINDS
returns-else-costs-eq-KINDS c = ne_eqb _ _ c.if-costs-eq-KINDS.false ∙ other_length c.args.costs.now c.if-costs-eq-KINDS.false
