-- `put_set` meets its contract: its parts one after the other. Assumes nothing.
use Rattle.rules.specs.Rules.Listing.{line, set_line}
use Rattle.byte_writer.specs.Writers.{writes-append}
use Rattle.listing.proofs.put_set.Goals as goal

pub returns : goal.returns
unfolding set_line line
returns c = writes-append (writes-append c.put_text.ensures c.put_members.ensures) c.put_byte.ensures
