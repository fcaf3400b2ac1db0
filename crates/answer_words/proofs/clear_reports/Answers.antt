-- `clear_reports` meets its contract. Assumes nothing.
use native.Mathlib.Omega.{arith}
use Rattle.answer_words.proofs.Laws.{cleared}
use Rattle.answer_words.proofs.clear_reports.Goals as goal

pub returns : goal.returns
returns c =
    let a = c.args in
    cleared a.answer.now a.at _ 768 _ (omega arith) c.requires (c.fill.ensures.after (λ y e. e))
