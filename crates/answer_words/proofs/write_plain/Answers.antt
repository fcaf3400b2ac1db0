-- `write_plain` meets its contract: every word of the answer is written. Assumes nothing.
use Rattle.answer_words.proofs.Laws.{plain-written}
use borrow.Author.Rules.{rules}
use Rattle.answer_words.proofs.write_plain.Goals as goal

pub returns : goal.returns
returns c =
    let a = c.args in
    plain-written a.answer.now a.c a.plain c.told-answer (search rules) c.from.ensures c.copy_from_slice.ensures.after
