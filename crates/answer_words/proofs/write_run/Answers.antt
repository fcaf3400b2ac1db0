-- `write_run` meets its contract: every word of the answer is written. Assumes nothing.
use mathlib.Core.Path.{◌≡◌, refl}
use lib.ListN.{length}
use Rattle.answer_words.proofs.Laws.{run-written}
use borrow.Author.Rules.{rules}
use Rattle.answer_words.proofs.write_run.Goals as goal

pub returns : goal.returns
returns c =
    let a = c.args in
    let hf : length a.full.words ≡ 4 = search (rules, c.well_formed.1.0) in
    let hp : length a.plain.words ≡ 4 = search (rules, c.well_formed.1.1.0) in
    run-written a.answer.now a.c a.full a.plain a.v a.firsts c.told-answer hf hp c.write_counts.ensures c.copy_from_slice.ensures.after
    c.copy_from_slice-2.ensures.after c.from.ensures refl c.write_reports.ensures
