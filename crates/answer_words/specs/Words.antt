-- An answer as the words that a C caller gets.
-- Assumes nothing.
use Rattle.std.specs.Prelude.{◌≡◌, false, List, [], ◌∷◌, ◌++◌, ℕ, ◌<◌, get_or, Ok, Err}
use Rattle.location.specs.declared.LocationSet.{LocationSet}
use Rattle.location.specs.Sets.{limit, member}
use Rattle.rules.specs.declared.Verdict.{Verdict}
use Rattle.rules.specs.declared.Counts.{Counts}
use Rattle.rules.specs.declared.PlainCounts.{PlainCounts}
use Rattle.rules.specs.declared.First.{First}
use Rattle.rules.specs.declared.RunAnswer.{RunAnswer}
use Rattle.rules.specs.declared.PlainAnswer.{PlainAnswer}
use Rattle.rules.specs.declared.PairWord.{PairWord}
use Rattle.rules.specs.declared.PairWord.TheVariants as words
use Rattle.rules.specs.declared.TestLoad.TheVariants as loads
use Rattle.rules.specs.Rules.Outcomes.{PairAnswer, TestLoadAnswer, ReadAnswer, PrintAnswer}
use Rattle.rules.specs.Rules.Answers.{stop_number, verdict_number, cause_number, pair_number}
use Rattle.rules.specs.Rules.Firsts.{no_report}

-- stop, observations, steps and rollbacks
abbrev pub count_words : Counts → List ℕ
count_words c = stop_number c.stop ∷ c.observations ∷ c.steps ∷ c.rollbacks ∷ []

-- of a location: the index, the rule and the label of the observation that brought it into D
abbrev pub report_words : First → List ℕ
report_words x = x.index ∷ cause_number x.cause ∷ x.label ∷ []

-- of one location after the other
unfoldable pub reports_words : List First → List ℕ
reports_words [] = []
reports_words (x ∷ xs) = report_words x ++ reports_words xs

-- nothing is reported of a location that is not in the set
pub record MembersOnly (s : LocationSet) (firsts : List First) : Type 0 where
  pub nothing : (l : ℕ) → l < limit → member s l ≡ false → get_or firsts l no_report ≡ no_report

-- stop, observations, steps, rollbacks, the words of D and of the plain set, the verdict, and the words of each location
abbrev pub run_words : Counts → LocationSet → LocationSet → Verdict → List First → List ℕ
run_words c full plain v firsts =
    count_words c ++ full.words ++ plain.words ++ (verdict_number v ∷ []) ++ reports_words firsts

-- stop, observations, steps and the words of the plain set
abbrev pub plain_words : PlainCounts → LocationSet → List ℕ
plain_words c plain = (stop_number c.stop ∷ c.observations ∷ c.steps ∷ []) ++ plain.words

-- the word, then what each run counts
abbrev pub pair_words : PairWord → Counts → Counts → List ℕ
pair_words w c d = pair_number w ∷ count_words c ++ count_words d

-- a test load, where the own run has not finished and where the new state was run: the word, what each run counts (0 for one that was not
-- made), and whether a new state was made and run
abbrev pub unfinished_words : Counts → List ℕ
unfinished_words c = pair_number words.Undecided ∷ count_words c ++ (0 ∷ 0 ∷ 0 ∷ 0 ∷ 0 ∷ [])

abbrev pub test_load_words : PairWord → Counts → Counts → List ℕ
test_load_words w c d = pair_number w ∷ count_words c ++ count_words d ++ (1 ∷ [])

-- the bytes and the instructions of a program that was read; the bytes of a text that was printed
abbrev pub read_words : ℕ → ℕ → List ℕ
read_words bytes instructions = bytes ∷ instructions ∷ []

abbrev pub print_words : ℕ → List ℕ
print_words bytes = bytes ∷ []

-- the words of an answer, which a call writes from the first word on: none where it refuses
abbrev pub run_answer_words : RunAnswer → List ℕ
run_answer_words r = elim r.outcome [ Err n ↦ [] | Ok x ↦ run_words x.counts r.full r.plain x.verdict r.firsts ]

abbrev pub plain_answer_words : PlainAnswer → List ℕ
plain_answer_words r = elim r.outcome [ Err n ↦ [] | Ok c ↦ plain_words c r.plain ]

abbrev pub pair_answer_words : PairAnswer → List ℕ
pair_answer_words (Err n) = []
pair_answer_words (Ok x) = pair_words x.word x.first x.second

abbrev pub test_load_answer_words : TestLoadAnswer → List ℕ
test_load_answer_words (Err n) = []
test_load_answer_words (Ok (loads.Undecided c)) = unfinished_words c
test_load_answer_words (Ok (loads.Compared x)) = test_load_words x.word x.first x.second

abbrev pub read_answer_words : ReadAnswer → List ℕ
read_answer_words (Err n) = []
read_answer_words (Ok x) = read_words x.bytes x.instructions

abbrev pub print_answer_words : PrintAnswer → List ℕ
print_answer_words (Err n) = []
print_answer_words (Ok k) = print_words k
