-- `print_listing` meets its contract: 1,024 words are room for 512 observations. Assumes nothing.
use Rattle.rules.specs.Rules.Calls.{room}
use Rattle.printer.proofs.Laws.{listed}
use borrow.Author.Rules.{rules}
use Rattle.printer.proofs.print_listing.Goals as goal

pub returns : goal.returns
unfolding room
returns c = listed (search rules) c.print_run.ensures.exact (search rules)
