-- The number and word of each case of an answer. Refusals have the documents' numbers; stops, verdicts, the rules of F-6 and the
-- words on a pair are numbered from 0 in the order in which the documents name them (of a stop: finished first).
-- Assumes nothing.
use Rattle.std.specs.Prelude.{List, [], ◌∷◌, ℕ, Result, Ok, Err}
use Prim.Native.String.{String, [] as none, ◌∷◌ as ◌then◌}
use Prim.Native.Char.{code}
use Rattle.rules.specs.declared.Stop.{Stop}
use Rattle.rules.specs.declared.Stop.TheVariants.{Finished, Spent, TraceFull, OutsideFull}
use Rattle.rules.specs.declared.Verdict.{Verdict}
use Rattle.rules.specs.declared.Verdict.TheVariants as verdicts
use Rattle.rules.specs.declared.Cause.{Cause}
use Rattle.rules.specs.declared.Cause.TheVariants as causes
use Rattle.rules.specs.declared.PairWord.{PairWord}
use Rattle.rules.specs.declared.PairWord.TheVariants as pairs
use Rattle.rules.specs.declared.Refusal.{Refusal}
use Rattle.rules.specs.declared.Refusal.TheVariants as refusals
use Rattle.rules.specs.declared.RunAnswer.{RunAnswer}
use Rattle.rules.specs.declared.PlainAnswer.{PlainAnswer}
use Rattle.rules.specs.Rules.Outcomes.{PairAnswer, TestLoadAnswer, ReadAnswer, PrintAnswer}

-- the bytes of a text
unfoldable pub text : String → List ℕ
text none = []
text (c then s) = code c ∷ text s

abbrev pub stop_number : Stop → ℕ
stop_number Finished = 0
stop_number Spent = 1
stop_number TraceFull = 2
stop_number OutsideFull = 3

abbrev pub stop_word : Stop → List ℕ
stop_word Finished = text "finished"
stop_word Spent = text "spent"
stop_word TraceFull = text "trace full"
stop_word OutsideFull = text "outside full"

abbrev pub verdict_number : Verdict → ℕ
verdict_number verdicts.Undecided = 0
verdict_number verdicts.Clean = 1
verdict_number verdicts.Speculative = 2
verdict_number verdicts.Plain = 3

abbrev pub verdict_word : Verdict → List ℕ
verdict_word verdicts.Undecided = text "undecided"
verdict_word verdicts.Clean = text "clean"
verdict_word verdicts.Speculative = text "speculative"
verdict_word verdicts.Plain = text "plain"

-- the rules that F-6 names, in its order
abbrev pub cause_number : Cause → ℕ
cause_number causes.Branch = 0
cause_number causes.Jump = 1
cause_number causes.Load = 2
cause_number causes.Store = 3

abbrev pub cause_word : Cause → List ℕ
cause_word causes.Branch = text "branch"
cause_word causes.Jump = text "jump"
cause_word causes.Load = text "load"
cause_word causes.Store = text "store"

abbrev pub pair_number : PairWord → ℕ
pair_number pairs.NotComparable = 0
pair_number pairs.Undecided = 1
pair_number pairs.PlainDiffers = 2
pair_number pairs.LeakShown = 3
pair_number pairs.Equal = 4

-- the table of refusals, in its order, then document 02's
abbrev pub refusal_number : Refusal → ℕ
refusal_number refusals.Length = 1
refusal_number refusals.Trailer = 2
refusal_number refusals.Offsets = 3
refusal_number refusals.Encoding = 4
refusal_number refusals.Postfix = 5
refusal_number refusals.BranchLabel = 6
refusal_number refusals.Surplus = 7
refusal_number refusals.PublicList = 8
refusal_number refusals.SecondState = 9
refusal_number refusals.Areas = 10
refusal_number refusals.Text = 11
refusal_number refusals.Output = 12
refusal_number refusals.Seed = 13
refusal_number refusals.Costs = 14

-- the refusal number of a call's answer: 0 where the call was carried out
abbrev pub refusal_of : {A : Type 0} → Result A Refusal → ℕ
refusal_of (Err n) = refusal_number n
refusal_of (Ok x) = 0

abbrev pub run_refusal : RunAnswer → ℕ
run_refusal r = refusal_of r.outcome

abbrev pub plain_refusal : PlainAnswer → ℕ
plain_refusal r = refusal_of r.outcome

abbrev pub pair_refusal : PairAnswer → ℕ
pair_refusal r = refusal_of r

abbrev pub test_load_refusal : TestLoadAnswer → ℕ
test_load_refusal r = refusal_of r

abbrev pub read_refusal : ReadAnswer → ℕ
read_refusal r = refusal_of r

abbrev pub print_refusal : PrintAnswer → ℕ
print_refusal r = refusal_of r
