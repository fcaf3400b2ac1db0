-- Demand 3 of the definitions: two runs of one job, whose states are alike in the set D that the first run reports, have the same
-- trace, steps, rollbacks, stop, sets, observed sets and verdict, finished or not, and outside the image the same addresses with words that agree.
-- Assumes nothing.
use Rattle.std.specs.Prelude.{◌≡◌, Bool, true, false, not, cond, List, [], ◌∷◌, ◌≢◌, ℕ, zero, suc, ◌+◌, ◌<◌, ◌≤◌, length, get_or}
use Rattle.std.proofs.Math.Path.{refl, sym, ap, ap₂}
use Rattle.std.proofs.Common.{◌∙◌, arith, add-zero, zero-add}
use Rattle.std.proofs.Math.Decide.{dec_lt}
use Rattle.std.proofs.Math.Dec.{leb}
use Rattle.std.proofs.Math.ListN.{get_or-eq_default}
use Rattle.location.specs.declared.LocationSet.{LocationSet}
use Rattle.location.specs.Sets.{empty, single, union, subset}
use Rattle.location.specs.SetLaws.{Within, within-refl, within_trans, union-within_right, subset-within, member-single}
use Rattle.rules.specs.declared.Stop.{Stop}
use Rattle.rules.specs.declared.Stop.TheVariants.{Finished, Spent, TraceFull, OutsideFull}
use Rattle.rules.specs.declared.Verdict.TheVariants as verdicts
use Rattle.rules.specs.Rules.Expressions.{tagged}
use Rattle.rules.specs.Rules.Plain.{at, own_from, first_state, Code}
use Rattle.rules.specs.Rules.Mispredicting.{Machine, Step, step}
use Rattle.rules.specs.Rules.Loop.{ended}
use Rattle.rules.specs.Rules.Runs.{Gathered, Result, observed_set, note, note_unmade, fits, run, Job, first, blank, mispredicting_run}
use Rattle.rules.specs.Rules.Runs.{is_finished, judge, verdict}
use Rattle.rules.specs.Rules.Pairs.{with_state}
use Rattle.rules.specs.Rules.Demands.{AlikeOn}
use Rattle.rules.proofs.Theorems.RunLaws.{run-over, run_spent, run-full, run-outside, run_step, run_ind, full_grows}
use Rattle.rules.proofs.Theorems.Sizes.{own-length}
use Rattle.rules.proofs.Theorems.Alike.{Agree, AlikeOutside, none as nothing-outside, Alike, agree_refl}
use Rattle.rules.proofs.Theorems.AlikeSteps.{none, Same, SameStep, same_over, same-gather, same_step, count-step}

-- ---- runs: "Demand 3 compares two whole runs."
pub record SameResult (D : LocationSet) (r s : Result) : Type 0 where
  pub stop : r.stop ≡ s.stop
  pub gathered : r.gathered ≡ s.gathered
  pub last : Alike D r.last.state s.last.state

-- For any step function with two laws: it keeps two machines the same as long as what it observes rests on D, and how many
-- observations it makes is the same in any case. The second covers a run that stops as "trace full".
module _ (f : Machine → Step) (code : Code) (room : ℕ) (D : LocationSet)
    (same : (M N : Machine) → Same D M N → Within (f M).seen D → SameStep D (f M) (f N))
    (count : (M N : Machine) → Same D M N → length (f M).obs ≡ length (f N).obs) where
  same-fits : {M N : Machine} (g : Gathered) → Same D M N → fits room (f M) g ≡ fits room (f N) g
  unfolding fits
  same-fits {M} {N} g h = ap (λ (n : ℕ). leb (length g.trace + n) room) (count M N h)

  same-observed : {M N : Machine} {s t : Step} (g : Gathered) → Same D M N → SameStep D s t → observed_set M s g ≡ observed_set N t g
  unfolding observed_set
  same-observed g h x = rw (h.place, x.cause, x.seen)

  same-note : {M N : Machine} {s t : Step} (g : Gathered) → Same D M N → SameStep D s t → note M s g ≡ note N t g
  unfolding note
  same-note {M} {N} {s} {t} g h x =
      rw (same-observed g h x, x.obs, x.seen, x.back, same-gather code g.plain t.seen h.branches)

  same-unmade : {M N : Machine} {s t : Step} (g : Gathered) → Same D M N → SameStep D s t → note_unmade M s g ≡ note_unmade N t g
  unfolding note_unmade
  same-unmade {M} {N} {s} {t} g h x = rw (same-observed g h x, x.seen, same-gather code g.plain t.seen h.branches)

  -- the set of a store that stops the run has joined D
  unmade-within : (M : Machine) (g : Gathered) → Within (note_unmade M (f M) g).full D → Within (f M).seen D
  unfolding note_unmade
  unmade-within M g w = union-within_right g.full (f M).seen w

  seen-within : (M : Machine) (g : Gathered) → Within (note M (f M) g).full D → Within (f M).seen D
  unfolding note
  seen-within M g w = union-within_right g.full (f M).seen w

  same_ended : {M N : Machine} (x : Stop) (g : Gathered) → Same D M N → SameResult D (ended x M g) (ended x N g)
  unfolding ended
  same_ended x g h = record { stop = refl; gathered = refl; last = h.state }

  -- a second machine that is the same as M runs as M does, to the result r
  abbrev Follows : ℕ → Machine → Gathered → Result → Type 0
  Follows k M g r = (N : Machine) → Same D M N → Within r.gathered.full D → SameResult D r (run f code room k N g)

  follows_step : (k : ℕ) (M : Machine) (g : Gathered)
      → Follows k (f M).next (note M (f M) g) (run f code room k (f M).next (note M (f M) g))
      → (N : Machine) → Same D M N → Within (run f code room k (f M).next (note M (f M) g)).gathered.full D
      → SameResult D (run f code room k (f M).next (note M (f M) g)) (run f code room k (f N).next (note N (f N) g))
  follows_step k M g ih N h w =
      let x = same M N h (seen-within M g (within_trans (full_grows f code room k (f M).next (note M (f M) g)) w)) in
      rw (← same-note g h x) (ih (f N).next x.next w)

  pub same-run : (k : ℕ) (M : Machine) (g : Gathered) (N : Machine) → Same D M N → Within (run f code room k M g).gathered.full D
      → SameResult D (run f code room k M g) (run f code room k N g)
  same-run =
      run_ind f code room Follows
      (λ k M g e N h w. rw (run-over f code room k N g (sym (same_over code h) ∙ e)) (same_ended Finished g h))
      (λ M g e N h w. rw (run_spent f code room N g (sym (same_over code h) ∙ e)) (same_ended Spent g h))
      (λ k M g e x N h w.
      rw (run-full f code room k N g (sym (same_over code h) ∙ e) (sym (same-fits g h) ∙ x)) (same_ended TraceFull g h))
      (λ k M g e x o N h w.
      let s = same M N h (unmade-within M g (unfold ended in w)) in
      rw (run-outside f code room k N g (sym (same_over code h) ∙ e) (sym (same-fits g h) ∙ x) (sym s.overfull ∙ o), ← same-unmade g h s)
      (same_ended OutsideFull (note_unmade M (f M) g) h))
      (λ k M g e x ih N h w.
      let s = same M N h (seen-within M g (within_trans (full_grows f code room k (f M).next (note M (f M) g)) w)) in
      rw (run_step f code room k N g (sym (same_over code h) ∙ e)
      (record { fit = sym (same-fits g h) ∙ x.fit; storable = sym s.overfull ∙ x.storable }))
      (follows_step k M g ih N h w))

-- ---- the start: "Each register and cell carries a set of locations, at first itself alone."
own_at : (i : ℕ) (vs : List ℕ) (l : ℕ) → l < length vs → get_or (own_from i vs) l (tagged 0 empty) ≡ tagged (get_or vs l 0) (single (i + l))
unfolding own_from
own_at i [] l h = absurd (omega arith)
own_at i (v ∷ vs) zero h = rw (add-zero i)
own_at i (v ∷ vs) (suc l) h = own_at (suc i) vs l (omega arith) ∙ ap (λ (n : ℕ). tagged (get_or vs l 0) (single n)) (omega arith)

own_out : (vs : List ℕ) (l : ℕ) → length vs ≤ l → get_or (own_from 0 vs) l (tagged 0 empty) ≡ tagged 0 empty
own_out vs l h = get_or-eq_default (own_from 0 vs) (tagged 0 empty) (rw (own-length 0 vs) h)

module _ (D : LocationSet) (xs ys : List ℕ) (bound : length xs ≤ 256) (size : length xs ≡ length ys) (h : AlikeOn D xs ys) where
  own_agree : (l : ℕ) → Dec (l < length xs) → Agree D (get_or (own_from 0 xs) l (tagged 0 empty)) (get_or (own_from 0 ys) l (tagged 0 empty))
  own_agree l (yes lt) =
      let p : Within (single l) D → tagged (get_or xs l 0) (single l) ≡ tagged (get_or ys l 0) (single l) =
      λ w. ap (λ (v : ℕ). tagged v (single l)) (h.same l (w.each l (member-single l (omega arith)))) in
      rw (own_at 0 xs l lt, own_at 0 ys l (omega arith), zero-add l) (record { left = p; right = p })
  own_agree l (no n) = rw (own_out xs l (omega arith), own_out ys l (omega arith)) (agree_refl (tagged 0 empty))

  own-alike : Alike D (first_state xs) (first_state ys)
  unfolding at first_state
  own-alike = record {
    lengths = own-length 0 xs ∙ size ∙ sym (own-length 0 ys);
    here = λ l. own_agree l (dec_lt l (length xs));
    outside = nothing-outside;
  }

-- ---- the theorems
-- "A run's trace is the list of all its observations in order, each with its kind and value; the observation count is that list's
-- length. Steps are the steps made, and rollbacks those among them made by rule 1. The reported set is D as it is when the run
-- ends." "remembered cells whose set lies in D then hold the same in both".
pub record SameReport (job job' : Job) (r s : Result) : Type 0 where
  pub stop : r.stop ≡ s.stop
  pub trace : r.gathered.trace ≡ s.gathered.trace
  pub steps : r.gathered.steps ≡ s.gathered.steps
  pub rollbacks : r.gathered.rollbacks ≡ s.gathered.rollbacks
  pub full : r.gathered.full ≡ s.gathered.full
  pub plain : r.gathered.plain ≡ s.gathered.plain
  pub sets : r.gathered.sets ≡ s.gathered.sets
  pub word : verdict job r ≡ verdict job' s
  pub outside : AlikeOutside r.gathered.full r.last.state.outside s.last.state.outside

undecided≢clean : verdicts.Undecided ≢ verdicts.Clean
undecided≢clean e = let z : ◌≡◌ {A = ℕ} 0 1 = cc in omega arith

not_clean : (b : Bool) → cond b verdicts.Plain verdicts.Speculative ≡ verdicts.Clean → ⊥
not_clean true e = let z : ◌≡◌ {A = ℕ} 0 1 = cc in omega arith
not_clean false e = let z : ◌≡◌ {A = ℕ} 0 1 = cc in omega arith

-- "clean if D lies within the public list"
pub clean-within : (public : LocationSet) (stop : Stop) (full plain : LocationSet) → judge public stop full plain ≡ verdicts.Clean
    → Within full public
unfolding judge
clean-within public stop full plain = go (is_finished stop) (subset full public) refl
  where
    go : (f b : Bool) → subset full public ≡ b
        → cond (not f) verdicts.Undecided (cond b verdicts.Clean (cond (subset full (union public plain)) verdicts.Plain verdicts.Speculative))
        ≡ verdicts.Clean
        → Within full public
    go false b q r = absurd (undecided≢clean r)
    go true true q r = subset-within full public q
    go true false q r = absurd (not_clean (subset full (union public plain)) r)

-- "The second state stands in a job that is the same but for the state's bytes": vs are its words.
module _ (job : Job) (room : ℕ) (vs : List ℕ) (bound : length job.init ≤ 256) (size : length job.init ≡ length vs) where
  pub same_first : (D : LocationSet) → AlikeOn D job.init vs → Same D (first job) (first (with_state job vs))
  unfolding first with_state
  same_first D h = record { state = own-alike D job.init vs bound size h; place = refl; branches = none; opened = refl }

  -- for any set that holds the reported one: the states at the end are alike in it too
  pub same_runs : (D : LocationSet) → Within (mispredicting_run job room).gathered.full D → AlikeOn D job.init vs
      → SameResult D (mispredicting_run job room) (mispredicting_run (with_state job vs) room)
  unfolding mispredicting_run with_state
  same_runs D w h =
      same-run (step job.code) job.code room D (λ M N s. same_step job.code s) (λ M N s. count-step job.code s)
      job.budget (first job) blank (first (with_state job vs)) (same_first D h) w

  -- "Demand 3 compares two whole runs", here with states alike in "the reported set"
  pub demand3 : AlikeOn (mispredicting_run job room).gathered.full job.init vs
      → SameReport job (with_state job vs) (mispredicting_run job room) (mispredicting_run (with_state job vs) room)
  unfolding verdict with_state
  demand3 h =
      let x = same_runs (mispredicting_run job room).gathered.full (within-refl (mispredicting_run job room).gathered.full) h in
      record {
        stop = x.stop;
        trace = ap (λ (g : Gathered). g.trace) x.gathered;
        steps = ap (λ (g : Gathered). g.steps) x.gathered;
        rollbacks = ap (λ (g : Gathered). g.rollbacks) x.gathered;
        full = ap (λ (g : Gathered). g.full) x.gathered;
        plain = ap (λ (g : Gathered). g.plain) x.gathered;
        sets = ap (λ (g : Gathered). g.sets) x.gathered;
        word = ap₂ (λ (s : Stop) (g : Gathered). judge job.public s g.full g.plain) x.stop x.gathered;
        outside = x.last.outside;
      }

  -- under a clean verdict ("clean if D lies within the public list"), with states alike in the public list
  pub demand3-clean : verdict job (mispredicting_run job room) ≡ verdicts.Clean → AlikeOn job.public job.init vs
      → SameReport job (with_state job vs) (mispredicting_run job room) (mispredicting_run (with_state job vs) room)
  unfolding verdict
  demand3-clean c h =
      let r = mispredicting_run job room in
      let w = clean-within job.public r.stop r.gathered.full r.gathered.plain c in
      demand3 (record { same = λ l m. h.same l (w.each l m) })
