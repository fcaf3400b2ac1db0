-- `LocationSet::subset` meets its contract: one test says of all words that they are inside. Assumes nothing.
use borrow.Author.Rules.{rules}
use Rattle.location.specs.Sets.{subset}
use Rattle.location.proofs.Laws.{inside_four}
use Rattle.location.proofs.LocationSet.subset.Goals as goal

pub returns : goal.returns
unfolding subset
returns c =
    let a = c.args in
    inside_four a.self.words a.other.words (search rules) (search rules)
