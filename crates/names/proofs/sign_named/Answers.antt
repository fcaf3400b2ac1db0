-- `sign_named` meets its contract, word by word. Assumes nothing.
use mathlib.Core.Path.{sym, ◌∙◌}
use Rattle.rules.specs.Rules.Answers.{text}
use Rattle.rules.specs.Rules.JobFile.{unary}
use Rattle.rules.specs.Rules.TextReading.{called, sign_named}
use Rattle.names.proofs.sign_named.Goals as goal

pub returns-then-same_word : goal.returns-then-same_word
unfolding sign_named called unary text
returns-then-same_word c = rw (sym c.same_word.ensures ∙ c.if-same_word.true)

pub returns-then-same_word-2 : goal.returns-then-same_word-2
unfolding sign_named called unary text
returns-then-same_word-2 c =
    rw (sym c.same_word.ensures ∙ c.if-same_word.false, sym c.same_word-2.ensures ∙ c.if-same_word-2.true)

pub returns : goal.returns
unfolding sign_named called unary text
returns c =
    rw (sym c.same_word.ensures ∙ c.if-same_word.false, sym c.same_word-2.ensures ∙ c.if-same_word-2.false)
