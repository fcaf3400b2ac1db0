-- `kind_named` meets its contract, word by word. Assumes nothing.
use mathlib.Core.Path.{sym, ◌∙◌}
use Rattle.rules.specs.Rules.Answers.{text}
use Rattle.rules.specs.Rules.TextReading.{instruction_words, place_among}
use Rattle.names.proofs.kind_named.Goals as goal

pub returns-then-same_word : goal.returns-then-same_word
unfolding place_among instruction_words text
returns-then-same_word c =
    rw (sym c.same_word.ensures ∙ c.if-same_word.true)

pub returns-then-same_word-2 : goal.returns-then-same_word-2
unfolding place_among instruction_words text
returns-then-same_word-2 c =
    rw (
      sym c.same_word.ensures ∙ c.if-same_word.false,
      sym c.same_word-2.ensures ∙ c.if-same_word-2.true,
    )

pub returns-then-same_word-3 : goal.returns-then-same_word-3
unfolding place_among instruction_words text
returns-then-same_word-3 c =
    rw (
      sym c.same_word.ensures ∙ c.if-same_word.false,
      sym c.same_word-2.ensures ∙ c.if-same_word-2.false,
      sym c.same_word-3.ensures ∙ c.if-same_word-3.true,
    )

pub returns-then-same_word-4 : goal.returns-then-same_word-4
unfolding place_among instruction_words text
returns-then-same_word-4 c =
    rw (
      sym c.same_word.ensures ∙ c.if-same_word.false,
      sym c.same_word-2.ensures ∙ c.if-same_word-2.false,
      sym c.same_word-3.ensures ∙ c.if-same_word-3.false,
      sym c.same_word-4.ensures ∙ c.if-same_word-4.true,
    )

pub returns-then-same_word-5 : goal.returns-then-same_word-5
unfolding place_among instruction_words text
returns-then-same_word-5 c =
    rw (
      sym c.same_word.ensures ∙ c.if-same_word.false,
      sym c.same_word-2.ensures ∙ c.if-same_word-2.false,
      sym c.same_word-3.ensures ∙ c.if-same_word-3.false,
      sym c.same_word-4.ensures ∙ c.if-same_word-4.false,
      sym c.same_word-5.ensures ∙ c.if-same_word-5.true,
    )

pub returns-then-same_word-6 : goal.returns-then-same_word-6
unfolding place_among instruction_words text
returns-then-same_word-6 c =
    rw (
      sym c.same_word.ensures ∙ c.if-same_word.false,
      sym c.same_word-2.ensures ∙ c.if-same_word-2.false,
      sym c.same_word-3.ensures ∙ c.if-same_word-3.false,
      sym c.same_word-4.ensures ∙ c.if-same_word-4.false,
      sym c.same_word-5.ensures ∙ c.if-same_word-5.false,
      sym c.same_word-6.ensures ∙ c.if-same_word-6.true,
    )

pub returns-then-same_word-7 : goal.returns-then-same_word-7
unfolding place_among instruction_words text
returns-then-same_word-7 c =
    rw (
      sym c.same_word.ensures ∙ c.if-same_word.false,
      sym c.same_word-2.ensures ∙ c.if-same_word-2.false,
      sym c.same_word-3.ensures ∙ c.if-same_word-3.false,
      sym c.same_word-4.ensures ∙ c.if-same_word-4.false,
      sym c.same_word-5.ensures ∙ c.if-same_word-5.false,
      sym c.same_word-6.ensures ∙ c.if-same_word-6.false,
      sym c.same_word-7.ensures ∙ c.if-same_word-7.true,
    )

pub returns-then-same_word-8 : goal.returns-then-same_word-8
unfolding place_among instruction_words text
returns-then-same_word-8 c =
    rw (
      sym c.same_word.ensures ∙ c.if-same_word.false,
      sym c.same_word-2.ensures ∙ c.if-same_word-2.false,
      sym c.same_word-3.ensures ∙ c.if-same_word-3.false,
      sym c.same_word-4.ensures ∙ c.if-same_word-4.false,
      sym c.same_word-5.ensures ∙ c.if-same_word-5.false,
      sym c.same_word-6.ensures ∙ c.if-same_word-6.false,
      sym c.same_word-7.ensures ∙ c.if-same_word-7.false,
      sym c.same_word-8.ensures ∙ c.if-same_word-8.true,
    )

pub returns : goal.returns
unfolding place_among instruction_words text
returns c =
    rw (
      sym c.same_word.ensures ∙ c.if-same_word.false,
      sym c.same_word-2.ensures ∙ c.if-same_word-2.false,
      sym c.same_word-3.ensures ∙ c.if-same_word-3.false,
      sym c.same_word-4.ensures ∙ c.if-same_word-4.false,
      sym c.same_word-5.ensures ∙ c.if-same_word-5.false,
      sym c.same_word-6.ensures ∙ c.if-same_word-6.false,
      sym c.same_word-7.ensures ∙ c.if-same_word-7.false,
      sym c.same_word-8.ensures ∙ c.if-same_word-8.false,
    )
