-- `put_first` meets its contract: the parts of the line one after the other. Assumes nothing.
use Rattle.rules.specs.Rules.Answers.{text}
use Rattle.rules.specs.Rules.Listing.{line, first_line}
use Rattle.byte_writer.specs.Writers.{writes-append}
use Rattle.listing.proofs.put_first.Goals as goal

pub returns : goal.returns
unfolding first_line line text
returns c =
    let cause = writes-append c.put_byte.ensures (rw c.cause_text.ensures at c.put_text-2.ensures) in
    let report = writes-append (writes-append (writes-append c.put_location.ensures c.put_number.ensures) cause) c.put_number-2.ensures in
    writes-append (writes-append c.put_text.ensures report) c.put_byte-2.ensures
