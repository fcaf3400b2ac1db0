-- `LocationSet::union` meets its contract. Assumes nothing.
use mathlib.Core.Path.{ap}
use mathlib.Core.List.{List}
use Prim.Native.Nat.{ℕ}
use Rattle.location.specs.Sets.{union}
use Rattle.location.proofs.Laws.{either-table}
use borrow.Author.Rules.{rules}
use Rattle.location.proofs.LocationSet.union.Goals as goal

pub returns : goal.returns
unfolding union
returns c = ap (λ (ws : List ℕ). record { words = ws })
    (either-table 4 c.args.self.words c.args.other.words (search rules) (search rules))
