-- The next step's set, recorded and gathered ahead of the step: the run is what it was, and the words tell of that set already.
-- Assumes nothing.
use mathlib.Core.Path.{◌≡◌, refl, sym, ap, ap₂, ◌∙◌, subst}
use mathlib.Core.Bool.{false, true≢false}
use mathlib.Core.List.{List, [], ◌∷◌, ◌++◌}
use Prim.Native.Nat.{ℕ, zero, suc, ◌+◌, ◌-◌, ◌/◌, ◌^◌, ◌<◌, ◌≤◌}
use native.Mathlib.Omega.{arith}
use lib.ListN.{length, drop}
use borrow.Author.Tests.{le-leb}
use Rattle.location.specs.declared.LocationSet.{LocationSet}
use Rattle.location.specs.Sets.{none, empty, union, subset}
use Rattle.location.specs.SetLaws.{union_again, union-empty, subset-joined}
use Rattle.rules.specs.declared.Cause.{Cause}
use Rattle.rules.specs.declared.Stop.TheVariants.{OutsideFull}
use Rattle.rules.specs.declared.Trailer.{Trailer}
use Rattle.rules.specs.Rules.Firsts.{ObservedSet}
use Rattle.rules.specs.Rules.Instructions.{Observation}
use Rattle.rules.specs.Rules.JobFile.{locations}
use Rattle.rules.specs.Rules.Mispredicting.{Machine, Step}
use Rattle.rules.specs.Rules.Plain.{Code}
use Rattle.rules.specs.Rules.Limits.{max_instructions}
use Rattle.rules.specs.Rules.Runs.{Gathered, Result, gather, observed_set, note, fits, over, run}
use Rattle.rules.proofs.Theorems.RunLaws.{run_step}
use Rattle.program.specs.Programs.{Describes}
use Rattle.work.specs.declared.machine.Control.{Control}
use Rattle.work.specs.Layout.{labels}
use Rattle.work.specs.Words.{branch_at, change_at, costs_in}
use Rattle.work.specs.Machines.{state_in}
use Rattle.work.proofs.Past.{SameMachine}
use Rattle.firsts.specs.Reports.{report, packed, Told}
use Rattle.firsts.specs.Recording.{recorded}
use Rattle.firsts.proofs.Laws.{recorded-within, recorded-machine, recorded-frame}
use Rattle.firsts.proofs.Told.{told-recorded}
use Rattle.stepping.specs.declared.Progress.{Progress}
use Rattle.stepping.specs.Progress.{Standing, machine_at, rolled_back, gathered_of, gather_at, progress_unmade}
use Rattle.stepping.proofs.Laws.{gathered}
use Rattle.execution.specs.declared.Mode.{Mode}
use Rattle.execution.specs.declared.Ran.{Ran}
use Rattle.execution.specs.Next.{step_by}
use Rattle.execution.specs.Running.{code_in, Ready, code_at, next_step, Permitted, Overfull, FreeUntil, next_set, Quiet, Foreseen, Unhindered}
use Rattle.execution.specs.Running.{Running, Settled, Ahead, report_of, RanTo}
use Rattle.execution.proofs.Running.{known-empty, locations-most, halts-outside, ends}
use Rattle.rules.specs.Theorems.Bounds.{PositiveCosts}

-- what is gathered once more is what was gathered
plain_again : (d : ℕ) (plain s : LocationSet) → gather_at d (gather_at d plain s) s ≡ gather_at d plain s
plain_again zero plain s = union_again plain s
plain_again (suc d) plain s = refl

-- the counts of a run are small
pub few-observed : {p : List ℕ} {t : Trailer} {mode : Mode} {x : Standing} → Ready p t mode x → x.progress.observations < 2 ^ 32
few-observed r = let a = r.counted.observed in let b = r.counted.steps in omega arith

pub same-steps : (c : Progress) (s : LocationSet) {c' : Progress} → c' ≡ progress_unmade c s → c'.steps ≡ c.steps
same-steps c s e = ap (λ (c : Progress). c.steps) e

module _ (p : List ℕ) (t : Trailer) (mode : Mode) {x : Standing} (r : Ready p t mode x) where
  abbrev seen : LocationSet
  seen = (next_step p t mode x).seen

  abbrev control : Control
  control = x.progress.control

  -- the words and the progress with the next step's set
  abbrev words : List ℕ
  words = recorded (packed (next_set p t mode x).report) x.progress.full seen x.work

  abbrev joined : Standing
  joined = record { work = words; trace = x.trace; progress = progress_unmade x.progress seen }

  abbrev M : Machine
  M = machine_at x (locations t)

  same-machine : SameMachine x.work words
  same-machine = recorded-machine (packed (next_set p t mode x).report) x.progress.full seen x.work

  machine-same : machine_at joined (locations t) ≡ M
  machine-same = same-machine.machine control (locations t) r.steady.fits (locations-most r.steady.loaded.limits)

  -- what is gathered after the next step is the same
  note_again : (os : List Observation) (xs : List ObservedSet) (s : Step)
      → note M s (gathered_of os xs (progress_unmade x.progress s.seen)) ≡ note M s (gathered_of os xs x.progress)
  unfolding note observed_set
  note_again os xs s =
      let F = union_again x.progress.full s.seen in
      let P : (q : LocationSet) → gather_at control.depth q s.seen ≡ gather M.branches q s.seen = λ q.
      gathered (branch_at x.work) (change_at x.work) (state_in x.work (locations t)) control.window control.log control.depth q s.seen in
      let Q = sym (P (gather_at control.depth x.progress.plain s.seen)) ∙ plain_again control.depth x.progress.plain s.seen
      ∙ P x.progress.plain in
      λ i. record {
        trace = os ++ s.obs;
        steps = suc x.progress.steps;
        rollbacks = rolled_back control + s.back;
        full = F i;
        plain = Q i;
        sets = xs ++ (observed_set M s (gathered_of os xs x.progress) ∷ []);
      }

  module _ (size : length seen.words ≡ 4) (label : subset seen x.progress.full ≡ false → control.place < max_instructions) where
    frame : drop labels words ≡ drop labels x.work
    frame = recorded-frame (packed (next_set p t mode x).report) x.progress.full seen x.work size

    code_same : code_at p t joined ≡ code_at p t x
    code_same = ap (code_in p t) frame

    step_same : next_step p t mode joined ≡ next_step p t mode x
    step_same = ap₂ (step_by mode) code_same machine-same

    -- the run can go on from there as from x
    ready-joined : Ready p t mode joined
    ready-joined = record {
      steady = record {
        loaded = record {
          limits = r.steady.loaded.limits;
          described = subst (Describes p t.count) (sym frame) r.steady.loaded.described;
          costs = subst (λ (ws : List ℕ). PositiveCosts (costs_in ws)) (sym frame) r.steady.loaded.costs;
        };
        fits = same-machine.fits control r.steady.fits;
        closed = r.steady.closed;
      };
      counted = record { opened = r.counted.opened; steps = r.counted.steps; room = r.counted.room; observed = r.counted.observed };
      budget = r.budget;
    }

    permitted_joined : Permitted p t mode x → Permitted p t mode joined
    permitted_joined o = record {
      fitting = record {
        on = ap₂ over code_same machine-same ∙ o.fitting.on;
        left = o.fitting.left;
        room = subst (λ (s : Step). x.progress.observations + length s.obs ≤ length x.trace / 2) (sym step_same) o.fitting.room;
      };
      storable = ap (λ (s : Step). s.overfull) step_same ∙ o.storable;
    }

    quiet-joined : Quiet p t mode joined
    quiet-joined = ap (λ (s : Step). subset s.seen (union x.progress.full seen)) step_same ∙ subset-joined seen x.progress.full

    -- the words tell of the set
    told-joined : {xs : List ObservedSet} → Told x.work x.progress.full xs
        → Told words (union x.progress.full seen) (xs ++ (next_set p t mode x ∷ []))
    told-joined told =
        told-recorded (next_set p t mode x) told size r.steady.fits.room
        (let a = r.counted.observed in let b = r.counted.steps in omega arith) label

    next-same : next_set p t mode x ≡ next_set p t mode joined
    next-same = λ i. record {
      report = record { index = x.progress.observations; label = control.place; cause = (sym step_same i).cause };
      set = (sym step_same i).seen;
    }

    module _ {w₀ a₀ : List ℕ} {R : Result} (g : Running p t mode w₀ a₀ x R) (o : Permitted p t mode x) where
      abbrev begun : Code
      begun = code_in p t (drop labels w₀)

      abbrev s : Step
      s = step_by mode begun M

      abbrev left : ℕ
      left = t.budget - x.progress.steps

      begun_same : next_step p t mode x ≡ s
      begun_same = ap (λ (ws : List ℕ). step_by mode (code_in p t ws) M) g.frame

      -- the rest of the run, by one step
      abbrev rest_from : Gathered → Result
      rest_from h = run (step_by mode begun) begun (length a₀ / 2) left M h

      steps_once : (c : Progress)
          → rest_from (gathered_of g.observed g.sets c)
          ≡ run (step_by mode begun) begun (length a₀ / 2) (left - 1) s.next (note M s (gathered_of g.observed g.sets c))
      unfolding fits
      steps_once c =
          let l = o.fitting.left in
          let k : left ≡ suc (left - 1) = omega arith in
          let on : over begun M ≡ false = subst (λ (ws : List ℕ). over (code_in p t ws) M ≡ false) g.frame o.fitting.on in
          let more : length g.observed + length s.obs ≤ length a₀ / 2 =
          subst (λ (z : Step). length g.observed + length z.obs ≤ length a₀ / 2) begun_same
          (rw (g.count, ← g.size) o.fitting.room) in
          ap (λ (i : ℕ). run (step_by mode begun) begun (length a₀ / 2) i M (gathered_of g.observed g.sets c)) k
          ∙ run_step (step_by mode begun) begun (length a₀ / 2) (left - 1) M (gathered_of g.observed g.sets c) on
          (record {
            fit = le-leb (length g.observed + length s.obs) (length a₀ / 2) more;
            storable = sym (ap (λ (z : Step). z.overfull) begun_same) ∙ o.storable;
          })

      rest-same : rest_from (gathered_of g.observed g.sets (progress_unmade x.progress seen)) ≡ R
      rest-same =
          let c' = progress_unmade x.progress seen in
          let E = ap (λ (z : Step). progress_unmade x.progress z.seen) begun_same in
          let A = ap (λ (c : Progress). note M s (gathered_of g.observed g.sets c)) E ∙ note_again g.observed g.sets s in
          steps_once c'
          ∙ ap (run (step_by mode begun) begun (length a₀ / 2) (left - 1) s.next) A
          ∙ sym (steps_once x.progress) ∙ g.rest

      running-joined : Running p t mode w₀ a₀ joined R
      running-joined = record {
        observed = g.observed;
        sets = g.sets;
        count = g.count;
        trace = g.trace;
        size = g.size;
        frame = frame ∙ g.frame;
        rest = ap (λ (N : Machine). run (step_by mode begun) begun (length a₀ / 2) left N
            (gathered_of g.observed g.sets (progress_unmade x.progress seen))) machine-same ∙ rest-same;
      }

    ahead_joined : {w₀ a₀ : List ℕ} {R : Result} → Settled p t mode w₀ a₀ x R → Permitted p t mode x → Ahead p t mode w₀ a₀ joined R
    unfolding running-joined
    ahead_joined g o = record {
      running = running-joined g.running o;
      told = subst (λ (z : ObservedSet). Told words (union x.progress.full seen) (g.running.sets ++ (z ∷ []))) next-same (told-joined g.told);
    }

  -- ---- what the code does ahead of the steps, and where a store stops the run
  module _ {y : Standing} (f : Foreseen p t mode x y) where
    is_joined : joined ≡ y
    is_joined = λ i. record { work = sym f.words i; trace = sym f.trace i; progress = sym f.progress i }

    pub foreseen_unhindered : {until : ℕ} → Permitted p t mode x → FreeUntil t.budget until x → Unhindered p t mode until y
    foreseen_unhindered {until} o u =
        subst (Unhindered p t mode until) is_joined
        (record {
          ready = ready-joined f.size f.label;
          next = permitted_joined f.size f.label o;
          quiet = quiet-joined f.size f.label;
          free = record { more = u.more; most = u.most; free = u.free };
        })

    pub foreseen_ahead : {w₀ a₀ : List ℕ} {R : Result} → Permitted p t mode x → Settled p t mode w₀ a₀ x R → Ahead p t mode w₀ a₀ y R
    foreseen_ahead {w₀} {a₀} {R} o g = subst (λ (z : Standing). Ahead p t mode w₀ a₀ z R) is_joined (ahead_joined f.size f.label g o)

    pub foreseen_ends : {w₀ a₀ : List ℕ} {R : Result} {u : Ran} → Overfull p t mode x → Settled p t mode w₀ a₀ x R
        → u ≡ report_of OutsideFull y.progress → RanTo t w₀ a₀ y.work y.trace u R
    foreseen_ends {w₀} {a₀} {R} {u} o g e =
        let E = ends p t mode words r g.running (halts-outside p t mode x o) same-machine (frame f.size f.label)
        (told-joined f.size f.label g.told) in
        let q : u ≡ report_of OutsideFull (progress_unmade x.progress seen) = e ∙ ap (report_of OutsideFull) f.progress in
        subst (λ (z : Standing). RanTo t w₀ a₀ z.work z.trace u R) is_joined (subst (λ (v : Ran). RanTo t w₀ a₀ words x.trace v R) (sym q) E)

-- ---- what the code has found of the next step
module _ (p : List ℕ) (t : Trailer) (mode : Mode) (w trace : List ℕ) (c : Progress) where
  abbrev x : Standing
  x = record { work = w; trace = trace; progress = c }

  plain-empty : (d : ℕ) (plain : LocationSet) → length plain.words ≡ 4 → plain ≡ gather_at d plain empty
  plain-empty zero plain h = sym (union-empty plain h)
  plain-empty (suc d) plain h = refl

  -- it observes no set
  pub foresees_nothing : length c.full.words ≡ 4 → length c.plain.words ≡ 4 → (next_step p t mode x).seen ≡ empty → Foreseen p t mode x x
  unfolding empty none
  foresees_nothing hf hp e =
      let s = (next_step p t mode x).seen in
      let known = known-empty c.full e in
      let F = sym (union-empty c.full hf) ∙ ap (union c.full) (sym e) in
      let P = plain-empty c.control.depth c.plain hp ∙ ap (gather_at c.control.depth c.plain) (sym e) in
      record {
        words = sym (recorded-within (packed (next_set p t mode x).report) c.full s w known);
        trace = refl;
        progress = λ i. record { control = c.control; observations = c.observations; steps = c.steps; full = F i; plain = P i };
        size = ap (λ (z : LocationSet). length z.words) e;
        label = λ q. absurd (true≢false (sym known ∙ q));
      }

  -- it observes a set by a rule
  pub foresees : {w' : List ℕ} {c' : Progress} {cause : Cause} (s : LocationSet) → cause ≡ (next_step p t mode x).cause → s ≡ (next_step p t mode x).seen
      → length s.words ≡ 4 → c.control.place < max_instructions
      → w' ≡ recorded (packed (report c.observations cause c.control.place)) c.full s w → c' ≡ progress_unmade c s
      → Foreseen p t mode x (record { work = w'; trace = trace; progress = c' })
  foresees s ec es h l ew ep = record {
    words = ew ∙ (λ i. recorded (packed (report c.observations (ec i) c.control.place)) c.full (es i) w);
    trace = refl;
    progress = ep ∙ ap (progress_unmade c) es;
    size = ap (λ (z : LocationSet). length z.words) (sym es) ∙ h;
    label = λ q. l;
  }
