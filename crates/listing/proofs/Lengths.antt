-- The lengths of what is made of parts, by which each part has room.
-- Assumes nothing.
use Rattle.listing.specs.Lengths.{line-length, number-line_length, set-line_length, summary-length, first-line_length}

pub ruleset lengths = (line-length, number-line_length, set-line_length, summary-length, first-line_length)
