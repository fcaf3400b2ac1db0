-- How what a C call returns comes from the answer of the call that it makes.
-- Assumes nothing.
use mathlib.Core.Path.{◌≡◌, refl, sym, ap, ◌∙◌}
use mathlib.Core.List.{List, []}
use Prim.Native.Nat.{ℕ}
use native.Mathlib.Omega.{arith}
use lib.Seq.{sets}
use Rattle.std.specs.Prelude.{Ok, Err}
use Rattle.rules.specs.declared.Counts.{Counts}
use Rattle.rules.specs.declared.PlainCounts.{PlainCounts}
use Rattle.rules.specs.declared.Refusal.{Refusal}
use Rattle.rules.specs.declared.RunAnswer.{RunAnswer}
use Rattle.rules.specs.declared.PlainAnswer.{PlainAnswer}
use Rattle.rules.specs.declared.Judged.{Judged}
use Rattle.rules.specs.declared.Compared.{Compared}
use Rattle.rules.specs.declared.ReadProgram.{ReadProgram}
use Rattle.rules.specs.declared.TestLoad.TheVariants as loads
use Rattle.rules.specs.Rules.Outcomes.{PairAnswer, TestLoadAnswer, ReadAnswer, PrintAnswer}
use Rattle.rules.specs.Rules.Answers.{refusal_number, run_refusal, plain_refusal, pair_refusal, test_load_refusal, read_refusal, print_refusal}
use Rattle.rules.specs.Rules.Calls.{Areas}
use Rattle.rules.specs.Rules.Pairs.{PairAreas}
use Rattle.rules.specs.Rules.Promises.{RunPromise, PlainPromise, PairPromise}
use Rattle.rules.specs.Rules.TextPromises.{ReadPromise, PrintPromise}
use Rattle.rules.specs.Rules.TestLoads.{TestLoadAreas}
use Rattle.rules.specs.Rules.TestLoadPromises.{TestLoadPromise}
use Rattle.answer_words.specs.Words.{MembersOnly, run_words, plain_words, pair_words, read_words, print_words, run_answer_words, plain_answer_words, pair_answer_words}
use Rattle.answer_words.specs.Words.{unfinished_words, test_load_words, test_load_answer_words, read_answer_words, print_answer_words}
use Rattle.checker_c.specs.Calls.{Returns}

-- ---- any call, with an answer a for which its promise holds: it was carried out, or refused
module _ {A : Type 0} {refusal : A → ℕ} {words_of : A → List ℕ} {Promise : A → Type 0} (a : A) (h : Promise a) {before : List ℕ} where
  carried_out : {after : List ℕ} → refusal a ≡ 0 → after ≡ sets before 0 (words_of a) → Returns refusal words_of before 0 after Promise
  carried_out e ew = record {
    answer = a;
    promise = h;
    number = sym e;
    words = ew;
    unaltered = λ z. absurd (omega arith);
  }

  refused : {r n : ℕ} → refusal a ≡ n → words_of a ≡ [] → r ≡ n → Returns refusal words_of before r before Promise
  refused e ew er = record {
    answer = a;
    promise = h;
    number = er ∙ sym e;
    words = ap (sets before 0) (sym ew);
    unaltered = λ z. refl;
  }

-- ---- each call
module _ {f costs : List ℕ} {lent left : Areas} {a : RunAnswer} (h : RunPromise f costs lent a left) {before : List ℕ} where
  pub run-refused : {n : Refusal} {r : ℕ} → a.outcome ≡ Err n → r ≡ refusal_number n
      → Returns run_refusal run_answer_words before r before (λ x. RunPromise f costs lent x left)
  run-refused e = refused a h (rw e) (rw e)

  pub run_returned : {x : Judged} {after : List ℕ} → a.outcome ≡ Ok x
      → after ≡ sets before 0 (run_words x.counts a.full a.plain x.verdict a.firsts)
      → Returns run_refusal run_answer_words before 0 after (λ x. RunPromise f costs lent x left)
  run_returned e ew = carried_out a h (rw e) (rw e ew)

-- nothing is reported of a location that is not in D
pub run-members : {f costs : List ℕ} {lent left : Areas} {a : RunAnswer} → RunPromise f costs lent a left → MembersOnly a.full a.firsts
run-members h = record { nothing = λ l i m. h.brought.nothing l m }

module _ {f : List ℕ} {lent left : Areas} {a : PlainAnswer} (h : PlainPromise f lent a left) {before : List ℕ} where
  pub plain-refused : {n : Refusal} {r : ℕ} → a.outcome ≡ Err n → r ≡ refusal_number n
      → Returns plain_refusal plain_answer_words before r before (λ x. PlainPromise f lent x left)
  plain-refused e = refused a h (rw e) (rw e)

  pub plain_returned : {c : PlainCounts} {after : List ℕ} → a.outcome ≡ Ok c
      → after ≡ sets before 0 (plain_words c a.plain)
      → Returns plain_refusal plain_answer_words before 0 after (λ x. PlainPromise f lent x left)
  plain_returned e ew = carried_out a h (rw e) (rw e ew)

module _ {f second costs : List ℕ} {lent left : PairAreas} {a : PairAnswer} (h : PairPromise f second costs lent a left) {before : List ℕ} where
  pub pair-refused : {n : Refusal} {r : ℕ} → a ≡ Err n → r ≡ refusal_number n
      → Returns pair_refusal pair_answer_words before r before (λ x. PairPromise f second costs lent x left)
  pair-refused e = refused a h (rw e) (rw e)

  pub pair_returned : {x : Compared} {after : List ℕ} → a ≡ Ok x
      → after ≡ sets before 0 (pair_words x.word x.first x.second)
      → Returns pair_refusal pair_answer_words before 0 after (λ x. PairPromise f second costs lent x left)
  pair_returned e ew = carried_out a h (rw e) (rw e ew)

module _ {f : List ℕ} {seed : ℕ} {costs : List ℕ} {lent left : TestLoadAreas} {a : TestLoadAnswer} (h : TestLoadPromise f seed costs lent a left)
    {before : List ℕ} where
  pub test-load-refused : {n : Refusal} {r : ℕ} → a ≡ Err n → r ≡ refusal_number n
      → Returns test_load_refusal test_load_answer_words before r before (λ x. TestLoadPromise f seed costs lent x left)
  test-load-refused e = refused a h (rw e) (rw e)

  pub unfinished_returned : {c : Counts} {after : List ℕ} → a ≡ Ok (loads.Undecided c) → after ≡ sets before 0 (unfinished_words c)
      → Returns test_load_refusal test_load_answer_words before 0 after (λ x. TestLoadPromise f seed costs lent x left)
  unfinished_returned e ew = carried_out a h (rw e) (rw e ew)

  pub test_load_returned : {x : Compared} {after : List ℕ} → a ≡ Ok (loads.Compared x)
      → after ≡ sets before 0 (test_load_words x.word x.first x.second)
      → Returns test_load_refusal test_load_answer_words before 0 after (λ x. TestLoadPromise f seed costs lent x left)
  test_load_returned e ew = carried_out a h (rw e) (rw e ew)

module _ {text lent left : List ℕ} {a : ReadAnswer} (h : ReadPromise text lent a left) {before : List ℕ} where
  pub read-refused : {n : Refusal} {r : ℕ} → a ≡ Err n → r ≡ refusal_number n
      → Returns read_refusal read_answer_words before r before (λ x. ReadPromise text lent x left)
  read-refused e = refused a h (rw e) (rw e)

  pub read_returned : {x : ReadProgram} {after : List ℕ} → a ≡ Ok x → after ≡ sets before 0 (read_words x.bytes x.instructions)
      → Returns read_refusal read_answer_words before 0 after (λ x. ReadPromise text lent x left)
  read_returned e ew = carried_out a h (rw e) (rw e ew)

module _ {job lent left : List ℕ} {a : PrintAnswer} (h : PrintPromise job lent a left) {before : List ℕ} where
  pub print_refused : {n : Refusal} {r : ℕ} → a ≡ Err n → r ≡ refusal_number n
      → Returns print_refusal print_answer_words before r before (λ x. PrintPromise job lent x left)
  print_refused e = refused a h (rw e) (rw e)

  pub print_returned : {k : ℕ} {after : List ℕ} → a ≡ Ok k → after ≡ sets before 0 (print_words k)
      → Returns print_refusal print_answer_words before 0 after (λ x. PrintPromise job lent x left)
  print_returned e ew = carried_out a h (rw e) (rw e ew)
