-- `put_summary` meets its contract: its six lines one after the other. Assumes nothing.
use Rattle.rules.specs.Rules.Answers.{text}
use Rattle.rules.specs.Rules.Listing.{summary}
use Rattle.byte_writer.specs.Writers.{writes-append}
use Rattle.listing.proofs.put_summary.Goals as goal

pub returns : goal.returns
unfolding summary text
returns c =
    let counts = writes-append (writes-append (rw c.stop_text.ensures at c.put_line.ensures) c.put_number_line.ensures) c.put_number_line-2.ensures in
    writes-append (writes-append (writes-append counts c.put_set.ensures) c.put_set-2.ensures) (rw c.verdict_text.ensures at c.put_line-2.ensures)
