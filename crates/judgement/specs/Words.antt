-- The word on a pair, of what the two runs have left: their stops and the words of their traces.
-- Assumes nothing.
use Rattle.std.specs.Prelude.{◌≡◌, refl, Bool, true, false, ◌&&◌, List, ℕ}
use Rattle.std.proofs.Common.{sym, ap, ap₂, ◌∙◌}
use Rattle.location.specs.SetLaws.{and_left, and_right}
use Rattle.rules.specs.declared.Stop.{Stop}
use Rattle.rules.specs.declared.Stop.TheVariants.{Finished}
use Rattle.rules.specs.declared.PairWord.{PairWord}
use Rattle.rules.specs.Rules.Runs.{Job, mispredicting_run, plain_run, is_finished}
use Rattle.rules.specs.Rules.Calls.{trace_words}
use Rattle.rules.specs.Rules.Pairs.{with_state, alike_from, same_words, same_trace, first_that_fits, pair_word}
use Rattle.rules.proofs.Theorems.PlainRun.{demand2}
use Rattle.rules.proofs.Theorems.PairLaws.{finished-stop}
use Rattle.trace.specs.Struck.{struck_words, struck-trace}

abbrev pub pair_word_of : Bool → Stop → Stop → List ℕ → List ℕ → PairWord
pair_word_of alike x x' a b =
    first_that_fits alike (is_finished x && is_finished x') (same_words (struck_words a) (struck_words b)) (same_words a b)

-- ---- the word is the rules'
-- the plain traces matter only where both runs have finished
fits-same : (c f p q s : Bool) → (f ≡ true → p ≡ q) → first_that_fits c f p s ≡ first_that_fits c f q s
fits-same false f p q s h = refl
fits-same true false p q s h = refl
fits-same true true p q s h = ap (λ (z : Bool). first_that_fits true true z s) (h refl)

module _ (job : Job) (k : ℕ) where
  -- where a run has finished, its trace struck out is the plain run's
  struck-plain : (mispredicting_run job k).stop ≡ Finished
      → struck_words (trace_words (mispredicting_run job k).gathered.trace) ≡ trace_words (plain_run job k).gathered.trace
  struck-plain e = struck-trace (mispredicting_run job k).gathered.trace ∙ ap trace_words (sym (demand2 job k e).trace)

pub word_same : (job : Job) (vs : List ℕ) (k : ℕ)
    → pair_word_of (alike_from job.public 0 job.init vs) (mispredicting_run job k).stop (mispredicting_run (with_state job vs) k).stop
    (trace_words (mispredicting_run job k).gathered.trace) (trace_words (mispredicting_run (with_state job vs) k).gathered.trace)
    ≡ pair_word job vs k
unfolding pair_word same_trace
word_same job vs k =
    let r = mispredicting_run job k in
    let r' = mispredicting_run (with_state job vs) k in
    fits-same (alike_from job.public 0 job.init vs) (is_finished r.stop && is_finished r'.stop)
    (same_words (struck_words (trace_words r.gathered.trace)) (struck_words (trace_words r'.gathered.trace)))
    (same_words (trace_words (plain_run job k).gathered.trace) (trace_words (plain_run (with_state job vs) k).gathered.trace))
    (same_words (trace_words r.gathered.trace) (trace_words r'.gathered.trace))
    (λ e.
    let x = is_finished r.stop in
    let y = is_finished r'.stop in
    ap₂ same_words (struck-plain job k (finished-stop r.stop (and_left x y e)))
    (struck-plain (with_state job vs) k (finished-stop r'.stop (and_right x y e))))
