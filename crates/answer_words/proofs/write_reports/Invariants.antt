-- `write_reports` meets its contract. The invariant: the locations passed have their words, and those of all others are 0. Assumes nothing.
use Rattle.answer_words.proofs.Laws.{Reported}
use Rattle.answer_words.proofs.write_reports.Given as goal

abbrev pub invariant-loop-l : goal.invariant-loop-l
invariant-loop-l l = Reported l.initial.answer l.at l.l-iterator.set l.firsts l.answer l.l-iterator.next
