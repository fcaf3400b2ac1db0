-- What a C call returns, of any call by the number and the words of its answers: a later call adds one line here.
-- Assumes nothing.
use Rattle.std.specs.Prelude.{◌≡◌, List, ℕ, ◌<◌}
use Rattle.std.proofs.lemmas.List.Edits.{sets}
use Rattle.rules.specs.declared.RunAnswer.{RunAnswer}
use Rattle.rules.specs.declared.PlainAnswer.{PlainAnswer}
use Rattle.rules.specs.Rules.Outcomes.{PairAnswer, TestLoadAnswer, ReadAnswer, PrintAnswer}
use Rattle.rules.specs.Rules.Answers.{run_refusal, plain_refusal, pair_refusal, test_load_refusal, read_refusal, print_refusal}
use Rattle.rules.specs.Rules.Promises.{LentArea}
use Rattle.answer_words.specs.Words.{run_answer_words, plain_answer_words, pair_answer_words, test_load_answer_words, read_answer_words, print_answer_words}

-- The number r is the refusal number of an answer for which the promise holds, and that answer's words stand from the first word on;
-- a refusal leaves every word as it was. `before` and `after` are the words of the answer's area.
pub record Returns {A : Type 0} (refusal : A → ℕ) (words_of : A → List ℕ) (before : List ℕ) (r : ℕ) (after : List ℕ) (Promise : A → Type 0) : Type 0 where
  pub answer : A
  pub promise : Promise answer
  pub number : r ≡ refusal answer
  pub words : after ≡ sets before 0 (words_of answer)
  pub unaltered : 0 < r → after ≡ before

-- ---- the calls, by the area that is lent for the answer
abbrev pub RunReturns : LentArea → ℕ → (RunAnswer → Type 0) → Type 0
RunReturns answer r Promise = Returns run_refusal run_answer_words answer.entry.now r answer.exit.now Promise

abbrev pub PlainReturns : LentArea → ℕ → (PlainAnswer → Type 0) → Type 0
PlainReturns answer r Promise = Returns plain_refusal plain_answer_words answer.entry.now r answer.exit.now Promise

abbrev pub PairReturns : LentArea → ℕ → (PairAnswer → Type 0) → Type 0
PairReturns answer r Promise = Returns pair_refusal pair_answer_words answer.entry.now r answer.exit.now Promise

abbrev pub TestLoadReturns : LentArea → ℕ → (TestLoadAnswer → Type 0) → Type 0
TestLoadReturns answer r Promise = Returns test_load_refusal test_load_answer_words answer.entry.now r answer.exit.now Promise

abbrev pub ReadReturns : LentArea → ℕ → (ReadAnswer → Type 0) → Type 0
ReadReturns answer r Promise = Returns read_refusal read_answer_words answer.entry.now r answer.exit.now Promise

abbrev pub PrintReturns : LentArea → ℕ → (PrintAnswer → Type 0) → Type 0
PrintReturns answer r Promise = Returns print_refusal print_answer_words answer.entry.now r answer.exit.now Promise
