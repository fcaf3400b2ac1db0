-- `LocationSet::rest` meets its contract: a location has a word. Assumes nothing.
use borrow.Author.Rules.{rules}
use Rattle.location.specs.Sets.{rest, bits_from}
use Rattle.location.proofs.LocationSet.rest.Goals as goal

pub returns : goal.returns
unfolding rest bits_from
returns c = search rules
