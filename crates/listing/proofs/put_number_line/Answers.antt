-- `put_number_line` meets its contract: its parts one after the other. Assumes nothing.
use Rattle.rules.specs.Rules.Listing.{line, number_line}
use Rattle.byte_writer.specs.Writers.{writes-append}
use Rattle.listing.proofs.put_number_line.Goals as goal

pub returns : goal.returns
unfolding number_line line
returns c = writes-append (writes-append c.put_text.ensures c.put_number.ensures) c.put_byte.ensures
