-- How a run is put together from its steps, and how the tests of the stops meet the rules' run.
-- Assumes nothing.
use mathlib.Core.Path.{◌≡◌, refl, sym, ap, ap₂, ◌∙◌, subst}
use mathlib.Core.Bool.{Bool, true, false, true≢false}
use mathlib.Core.List.{List, [], ◌∷◌, ◌++◌}
use Prim.Native.Nat.{ℕ, suc, ◌+◌, ◌-◌, ◌*◌, ◌/◌, ◌<◌, ◌≤◌}
use native.Mathlib.Omega.{arith}
use lib.ListN.{length, get_or, drop, length-append, length-drop}
use lib.Seq.{length-sets, get_or-drop}
use borrow.Author.Tests.{le-leb, lt-leb}
use Rattle.location.specs.declared.Label.{Label}
use Rattle.location.specs.declared.LocationSet.{LocationSet}
use Rattle.location.specs.Sets.{registers, limit, empty, union, subset}
use Rattle.location.specs.SetLaws.{subset-empty}
use Rattle.rules.specs.declared.Stop.{Stop}
use Rattle.rules.specs.declared.Stop.TheVariants.{Finished, Spent, TraceFull, OutsideFull}
use Rattle.rules.specs.declared.Tagged.{Tagged}
use Rattle.rules.specs.declared.Trailer.{Trailer}
use Rattle.rules.specs.Rules.Instructions.{Instr, Observation}
use Rattle.rules.specs.Rules.Plain.{at, Code, end_place, fetch}
use Rattle.rules.specs.Rules.Mispredicting.{Machine, Step, rolling, opening, ordinary, forward}
use Rattle.rules.specs.Rules.Loop.{ended}
use Rattle.rules.specs.Rules.Firsts.{cause_of, ObservedSet, firsts_of}
use Rattle.rules.specs.Rules.Runs.{Gathered, Result, observed_set, note, note_unmade, fits, over, run}
use Rattle.rules.specs.Rules.JobFile.{locations}
use Rattle.rules.specs.Rules.Calls.{written, trace_words, working_words, counts}
use Rattle.rules.proofs.Theorems.RunLaws.{run-over, run_spent, run-full, run-outside, run_step}
use Rattle.descriptor.specs.declared.Descriptor.{Descriptor}
use Rattle.descriptor.specs.Descriptors.{descriptor_in, instruction_in, Valid}
use Rattle.program.specs.Programs.{Describes, program-length, program-at}
use Rattle.work.specs.declared.machine.Control.{Control}
use Rattle.work.specs.Layout.{reports, labels}
use Rattle.work.specs.Words.{tagged_at, branch_at, change_at, costs_in}
use Rattle.work.specs.Machines.{state_in, machine_of, Fit}
use Rattle.stepping.specs.declared.Progress.{Progress}
use Rattle.stepping.specs.Progress.{Standing, standing, machine_at, rolled_back, gathered_of, progress_unmade}
use Rattle.stepping.specs.Steps.{Made, RolledBackTo}
use Rattle.stepping.proofs.Laws.{gathered}
use Rattle.work.proofs.Ranges.{drop_past}
use Rattle.work.proofs.States.{state-at}
use Rattle.work.proofs.Past.{SameMachine, machine-refl}
use Rattle.firsts.specs.Reports.{Told}
use Rattle.firsts.proofs.Told.{told-start, told-frame, told-within, told-joined, told-firsts}
use Rattle.execution.specs.declared.Mode.{Mode}
use Rattle.execution.specs.declared.Mode.TheVariants as modes
use Rattle.execution.specs.declared.Ran.{Ran}
use Rattle.execution.specs.declared.rule.Rule.{Rule}
use Rattle.execution.specs.declared.rule.Rule.TheVariants as rule
use Rattle.std.specs.Prelude.{Option, Some, None}
use Rattle.execution.specs.Next.{step_by, forward_by, over_at, rule_at, Opens}
use Rattle.execution.specs.Running.{code_in, Loaded, CodeOf, Steady, Ready, code_at, step_in, next_step, observed_by}
use Rattle.execution.specs.Running.{Fitting, Permitted, Overfull, Halts, HaltOf, next_set, Quiet, Unhindered, Tried}
use Rattle.execution.specs.Running.{Running, Settled, Ahead, GoesOn, report_of, RanTo}
use Rattle.execution.specs.Starts.{beginning, whole}
use Rattle.execution.proofs.Machine.{over_by, over-named, back-named, advance_named, Going, step-expired, forward-step, closed_not_expired}
use Rattle.execution.proofs.Machine.{plain_closed, same-shown, step-most}
use Rattle.execution.proofs.TraceArea.{observed-more}
use Rattle.execution.proofs.Overfull.{forward-overfull, forward-seen, forward-cause}
use Rattle.rules.specs.Theorems.Bounds.{Limits, PositiveCosts}

-- at most 256 locations
pub locations-most : {t : Trailer} → Limits t → locations t ≤ limit
locations-most l = let h = l.cells in omega arith

-- a step that is equal was made
pub made_as : {n : ℕ} {s s' : Step} {x y : Standing} → s ≡ s' → Made n s x y → Made n s' x y
made_as {n} {x = x} {y = y} e m = subst (λ (z : Step). Made n z x y) e m

-- or tried
pub tried_as : {n : ℕ} {s s' : Step} {x y : Standing} → s ≡ s' → Tried n s x y → Tried n s' x y
tried_as {n} {x = x} {y = y} e m = subst (λ (z : Step). Tried n z x y) e m

-- the empty set brings nothing in
pub known-empty : {s : LocationSet} (full : LocationSet) → s ≡ empty → subset s full ≡ true
known-empty full e = rw e (subset-empty full)

-- a register's word in the state of n locations
pub in_state : (w : List ℕ) (n r : ℕ) {v : Tagged} → v ≡ tagged_at w r → r < registers → registers ≤ n → v ≡ at (state_in w n) r
in_state w n r e h m = e ∙ sym (state-at w n r (omega arith))

-- a branch was tried: it was opened where its register's set, which is v's, brings nothing in
module _ (code : Code) (n : ℕ) (x y : Standing) (r l : ℕ) (v : Tagged) (ev : v ≡ at (state_in x.work n) r) where
  abbrev opens : Step
  opens = opening code (machine_at x n) r l

  pub opened-tried : subset v.deps x.progress.full ≡ true → Made n opens x y → Tried n opens x y
  unfolding opening
  opened-tried k m = record {
    made = λ q o. m;
    new = λ q. absurd (true≢false (sym k ∙ ap (λ (z : Tagged). subset z.deps x.progress.full) ev ∙ q));
    unmade = λ o. absurd (true≢false (sym o));
  }

  pub not_opened : subset v.deps x.progress.full ≡ false → y ≡ x → Tried n opens x y
  unfolding opening
  not_opened k e = record {
    made = λ q o. absurd (true≢false (sym q ∙ ap (λ (z : Tagged). subset z.deps x.progress.full) (sym ev) ∙ k));
    new = λ q. e;
    unmade = λ o. e;
  }

module _ (p : List ℕ) (t : Trailer) where
  -- ---- the program
  pub code_of : (w : List ℕ) → CodeOf t w (code_in p t (drop labels w))
  unfolding code_in end_place
  code_of w = record { count = program-length p t.count (drop labels w); cells = refl; window = refl; costs = refl }

  pub code-fetch : (ws : List ℕ) (i : ℕ) → i < t.count → fetch (code_in p t ws) i ≡ instruction_in p (descriptor_in (get_or ws i 0))
  unfolding code_in fetch
  code-fetch ws i h = program-at p t.count ws i h

  -- the words of a machine of the mispredicting run, whatever is open
  pub steady_any : {w : List ℕ} {c : Control} → Loaded p t w → Fit w c → Steady p t modes.Mispredicting w c
  steady_any l f = record { loaded = l; fits = f; closed = λ e. absurd (let z : ◌≡◌ {A = ℕ} 0 1 = cc in omega arith) }

  module _ (mode : Mode) where
    -- ---- the tests of the stops
    module _ (x : Standing) where
      abbrev code : Code
      code = code_at p t x

      abbrev machine : Machine
      machine = machine_at x (locations t)

      abbrev control : Control
      control = x.progress.control

      abbrev room : ℕ
      room = length x.trace / 2

      over-tested : over code machine ≡ over_at control.depth t.count control.place
      over-tested =
          over_by code x.work control (locations t)
          ∙ ap (λ (k : ℕ). over_at control.depth k control.place) (code_of x.work).count

      pub not_over : over code machine ≡ false → over_at control.depth t.count control.place ≡ false
      not_over h = sym over-tested ∙ h

      pub halts-finished : over_at control.depth t.count control.place ≡ true → Halts p t mode x Finished x.progress (λ xs. xs)
      halts-finished h = record {
        stops = λ os xs e.
            run-over (step_by mode code) code room (t.budget - x.progress.steps) machine (gathered_of os xs x.progress) (over-tested ∙ h);
        counted = refl;
      }

      module _ (on : over_at control.depth t.count control.place ≡ false) where
        pub still_on : over code machine ≡ false
        still_on = over-tested ∙ on

        pub halts_spent : t.budget ≤ x.progress.steps → Halts p t mode x Spent x.progress (λ xs. xs)
        halts_spent b =
            let z : t.budget - x.progress.steps ≡ 0 = omega arith in
            record {
              stops = λ os xs e. rw z (run_spent (step_by mode code) code room machine (gathered_of os xs x.progress) still_on);
              counted = refl;
            }

        pub fitting : x.progress.steps < t.budget → x.progress.observations + length (next_step p t mode x).obs ≤ room → Fitting p t mode x
        fitting b h = record { on = still_on; left = b; room = h }

        not_fitting : (os : List Observation) (xs : List ObservedSet) → length os ≡ x.progress.observations
            → room < x.progress.observations + length (next_step p t mode x).obs
            → fits room (next_step p t mode x) (gathered_of os xs x.progress) ≡ false
        unfolding fits
        not_fitting os xs e h = lt-leb (length os + length (next_step p t mode x).obs) room (rw e h)

        pub halts-full : x.progress.steps < t.budget → room < x.progress.observations + length (next_step p t mode x).obs
            → Halts p t mode x TraceFull x.progress (λ xs. xs)
        halts-full b h =
            let k : t.budget - x.progress.steps ≡ suc (t.budget - (x.progress.steps + 1)) = omega arith in
            record {
              stops = λ os xs e.
                  rw k (run-full (step_by mode code) code room (t.budget - (x.progress.steps + 1)) machine (gathered_of os xs x.progress) still_on
                  (not_fitting os xs e h));
              counted = refl;
            }

      -- of what the next step observes
      pub room_for : Fitting p t mode x → (os : List Observation) (xs : List ObservedSet) → length os ≡ x.progress.observations
          → fits room (next_step p t mode x) (gathered_of os xs x.progress) ≡ true
      unfolding fits
      room_for f os xs e = le-leb (length os + length (next_step p t mode x).obs) room (rw e f.room)

      -- the rules' set of the next step
      pub next-observed : (os : List Observation) (xs : List ObservedSet) → length os ≡ x.progress.observations
          → observed_set machine (next_step p t mode x) (gathered_of os xs x.progress) ≡ next_set p t mode x
      unfolding observed_set
      next-observed os xs e = rw e

      -- a store that stops the run: the set of its address is gathered
      unmade-gathered : (os : List Observation) (xs : List ObservedSet) → length os ≡ x.progress.observations
          → gathered_of os (xs ++ (next_set p t mode x ∷ [])) (progress_unmade x.progress (next_step p t mode x).seen)
          ≡ note_unmade machine (next_step p t mode x) (gathered_of os xs x.progress)
      unfolding note_unmade
      unmade-gathered os xs e =
          let seen = (next_step p t mode x).seen in
          let P = gathered (branch_at x.work) (change_at x.work) (state_in x.work (locations t)) control.window control.log
          control.depth x.progress.plain seen in
          let E = sym (next-observed os xs e) in
          λ i. record {
            trace = os;
            steps = x.progress.steps;
            rollbacks = rolled_back control;
            full = union x.progress.full seen;
            plain = P i;
            sets = xs ++ (E i ∷ []);
          }

      pub halts-outside : Overfull p t mode x
          → Halts p t mode x OutsideFull (progress_unmade x.progress (next_step p t mode x).seen) (λ xs. xs ++ (next_set p t mode x ∷ []))
      halts-outside f =
          let b = f.fitting.left in
          let k : t.budget - x.progress.steps ≡ suc (t.budget - (x.progress.steps + 1)) = omega arith in
          record {
            stops = λ os xs n.
                rw k (run-outside (step_by mode code) code room (t.budget - (x.progress.steps + 1)) machine (gathered_of os xs x.progress)
                f.fitting.on (room_for f.fitting os xs n) f.full ∙ ap (ended OutsideFull machine) (sym (unmade-gathered os xs n)));
            counted = refl;
          }

    -- what the code has found
    pub found : (x : Standing) {h k : Option Stop} → h ≡ k → HaltOf p t mode x h → HaltOf p t mode x k
    found x e o = subst (HaltOf p t mode x) e o

    -- every stop but outside full leaves what was gathered as it is
    pub halts_plainly : (x : Standing) (s : Stop) → (s ≡ OutsideFull → ⊥) → HaltOf p t mode x (Some s) → Halts p t mode x s x.progress (λ xs. xs)
    halts_plainly x Finished n h = h
    halts_plainly x Spent n h = h
    halts_plainly x TraceFull n h = h
    halts_plainly x OutsideFull n h = absurd (n refl)

    -- ---- rule 1 where the top branch has expired
    pub rolled : (x y : Standing) → Ready p t mode x → Going x.progress.control t.count x.work (locations t) true → RolledBackTo x y
        → Made (locations t) (next_step p t mode x) x y
    rolled x y = go mode
      where
        go : (m : Mode) → Ready p t m x → Going x.progress.control t.count x.work (locations t) true → RolledBackTo x y
            → Made (locations t) (next_step p t m x) x y
        go modes.Plain r g k =
            absurd (true≢false (sym g.top ∙ closed_not_expired t.count x.work x.progress.control (locations t) (r.steady.closed refl)))
        go modes.Mispredicting r g k =
            let M = machine_at x (locations t) in
            let q = step-expired (code_at p t x) M (rw (code_of x.work).count g.top) in
            rw q.rolls (k.made (locations t) q.top q.others (locations-most r.steady.loaded.limits) q.branches)

    -- its observations
    pub rolls_two : (w : List ℕ) (c : Control) → Steady p t mode w c → Going c t.count w (locations t) true → 2 ≡ observed_by p t mode w c
    rolls_two w c = go mode
      where
        go : (m : Mode) → Steady p t m w c → Going c t.count w (locations t) true → 2 ≡ observed_by p t m w c
        go modes.Plain r g = absurd (true≢false (sym g.top ∙ closed_not_expired t.count w c (locations t) (r.closed refl)))
        go modes.Mispredicting r g =
            let q = step-expired (code_in p t (drop labels w)) (machine_of w c (locations t)) (rw (code_of w).count g.top) in
            rw q.rolls (unfold rolling in refl)

    -- it observes no set
    pub rolls_quiet : (w : List ℕ) (c : Control) → Steady p t mode w c → Going c t.count w (locations t) true
        → (step_in p t mode w c).seen ≡ empty
    rolls_quiet w c = go mode
      where
        go : (m : Mode) → Steady p t m w c → Going c t.count w (locations t) true → (step_in p t m w c).seen ≡ empty
        go modes.Plain r g = absurd (true≢false (sym g.top ∙ closed_not_expired t.count w c (locations t) (r.closed refl)))
        go modes.Mispredicting r g =
            let q = step-expired (code_in p t (drop labels w)) (machine_of w c (locations t)) (rw (code_of w).count g.top) in
            rw q.rolls (unfold rolling in refl)

    -- it needs no address
    pub rolls_fitting : (w : List ℕ) (c : Control) → Steady p t mode w c → Going c t.count w (locations t) true
        → (step_in p t mode w c).overfull ≡ false
    rolls_fitting w c = go mode
      where
        go : (m : Mode) → Steady p t m w c → Going c t.count w (locations t) true → (step_in p t m w c).overfull ≡ false
        go modes.Plain r g = absurd (true≢false (sym g.top ∙ closed_not_expired t.count w c (locations t) (r.closed refl)))
        go modes.Mispredicting r g =
            let q = step-expired (code_in p t (drop labels w)) (machine_of w c (locations t)) (rw (code_of w).count g.top) in
            rw q.rolls (unfold rolling in refl)

    -- ---- the instruction at the place
    module _ (w : List ℕ) (c : Control) where
      abbrev described : Code
      described = code_in p t (drop labels w)

      abbrev now_machine : Machine
      now_machine = machine_of w c (locations t)

      module _ (s : Steady p t mode w c) (inside : c.place < t.count) {label : ℕ} {d : Descriptor} (el : label ≡ c.place)
          (ed : d ≡ descriptor_in (get_or w (labels + label) 0)) where
        word_same : d ≡ descriptor_in (get_or (drop labels w) c.place 0)
        word_same =
            ed ∙ ap (λ (i : ℕ). descriptor_in (get_or w (labels + i) 0)) el ∙ ap descriptor_in (sym (get_or-drop labels w c.place 0))

        pub fetched_valid : Valid p d
        fetched_valid = subst (Valid p) (sym word_same) (s.loaded.described.valid c.place inside)

        pub fetched_same : instruction_in p d ≡ fetch described c.place
        fetched_same = ap (instruction_in p) word_same ∙ sym (code-fetch (drop labels w) c.place inside)

      module _ (g : Going c t.count w (locations t) false) {i : Instr} (e : i ≡ fetch described c.place) where
        -- the next step is that of the instruction
        step_same : forward_by mode described now_machine i ≡ step_by mode described now_machine
        step_same =
            ap (forward_by mode described now_machine) e
            ∙ forward-step mode described now_machine (rw (code_of w).count g.top)

        pub observed-forward : length (forward_by mode described now_machine i).obs ≡ observed_by p t mode w c
        observed-forward = ap (λ (z : Step). length z.obs) step_same

        -- what it needs and observes
        pub step-overfull : (ordinary described now_machine i).overfull ≡ (step_in p t mode w c).overfull
        step-overfull = sym (forward-overfull mode described now_machine i) ∙ ap (λ (z : Step). z.overfull) step_same

        pub step-seen : (ordinary described now_machine i).seen ≡ (step_in p t mode w c).seen
        step-seen = sym (forward-seen mode described now_machine i) ∙ ap (λ (z : Step). z.seen) step_same

        pub step-cause : cause_of i ≡ (step_in p t mode w c).cause
        step-cause = sym (forward-cause mode described now_machine i) ∙ ap (λ (z : Step). z.cause) step_same

        -- rule 2 or rule 3
        pub branch-step : {r : ℕ} {l : Label} → Opens mode i (Some (r, l))
            → opening described now_machine r l.0 ≡ step_by mode described now_machine
        unfolding forward
        branch-step {r} {l} o =
            let f : forward_by mode described now_machine i ≡ opening described now_machine r l.0 = rw (o.0, o.1) in
            sym f ∙ step_same

        pub other_step : Opens mode i None → ordinary described now_machine i ≡ step_by mode described now_machine
        other_step o = sym (o described now_machine) ∙ step_same

        -- and room for what they show, after k observations in an area of so many words
        module _ (k size : ℕ) (h : 2 * (k + observed_by p t mode w c) ≤ size) where
          pub branch-room : {r : ℕ} {l : Label} → Opens mode i (Some (r, l)) → 2 * (k + 2) ≤ size
          unfolding opening
          branch-room o = subst (λ (m : ℕ). 2 * (k + m) ≤ size) (sym (ap (λ (z : Step). length z.obs) (branch-step o))) h

          pub other-room : Opens mode i None → (code : Code) → 2 * (k + length (ordinary code now_machine i).obs) ≤ size
          other-room o code =
              let e = ap (λ (z : Step). length z.obs) (other_step o) in
              subst (λ (m : ℕ). 2 * (k + m) ≤ size) (sym (same-shown code described now_machine i ∙ e)) h

    -- ---- a step that was made
    still_closed : (ws w w' : List ℕ) (c c' : Control) (m : Mode) → (m ≡ modes.Plain → c.depth ≡ 0)
        → machine_of w' c' (locations t) ≡ (step_by m (code_in p t ws) (machine_of w c (locations t))).next → m ≡ modes.Plain → c'.depth ≡ 0
    still_closed ws w w' c c' modes.Plain d e q = plain_closed (code_in p t ws) w w' c c' (locations t) (d q) e
    still_closed ws w w' c c' modes.Mispredicting d e q = absurd (let z : ◌≡◌ {A = ℕ} 0 1 = cc in omega arith)

    module _ {x y : Standing} (o : Permitted p t mode x) (m : Made (locations t) (next_step p t mode x) x y) where
      trace-size : length y.trace ≡ length x.trace
      trace-size = ap length m.trace ∙ length-sets x.trace (2 * x.progress.observations) (trace_words (next_step p t mode x).obs)

      label-frame : drop labels y.work ≡ drop labels x.work
      label-frame = drop_past y.work x.work reports labels (omega arith) m.frame

      pub ready_on : Ready p t mode x → Ready p t mode y
      ready_on r =
          let steps = m.steps in
          let two = step-most mode (code_at p t x) (machine_at x (locations t)) in
          let left = o.fitting.left in
          record {
            steady = record {
              loaded = record {
                limits = r.steady.loaded.limits;
                described = subst (Describes p t.count) (sym label-frame) r.steady.loaded.described;
                costs = subst (λ (ws : List ℕ). PositiveCosts (costs_in ws)) (sym label-frame) r.steady.loaded.costs;
              };
              fits = m.fits;
              closed =
                  still_closed (drop labels x.work) x.work y.work x.progress.control y.progress.control mode r.steady.closed
                  m.machine;
            };
            counted = record {
              opened = let a = r.counted.opened in let b = m.opened in omega arith;
              steps = let b = r.steady.loaded.limits.budget in omega arith;
              room = let a = m.observations in let b = o.fitting.room in let c = trace-size in omega arith;
              observed = let a = m.observations in let b = r.counted.observed in omega arith;
            };
            budget = omega arith;
          }

      roomy : (a₀ : List ℕ) (os : List Observation) (xs : List ObservedSet) (s : Step) → length os ≡ x.progress.observations
          → x.progress.observations + length s.obs ≤ length a₀ / 2 → fits (length a₀ / 2) s (gathered_of os xs x.progress) ≡ true
      unfolding fits
      roomy a₀ os xs s e h = le-leb (length os + length s.obs) (length a₀ / 2) (rw e h)

      pub running-on : {w₀ a₀ : List ℕ} {R : Result} → Running p t mode w₀ a₀ x R → Running p t mode w₀ a₀ y R
      running-on {w₀} {a₀} g =
          let begun = code_in p t (drop labels w₀) in
          let M = machine_at x (locations t) in
          let s = step_by mode begun M in
          let os = g.observed in
          let xs = g.sets in
          let same : next_step p t mode x ≡ s = ap (λ (ws : List ℕ). step_by mode (code_in p t ws) M) g.frame in
          let n = made_as same m in
          let on : over begun M ≡ false = subst (λ (ws : List ℕ). over (code_in p t ws) M ≡ false) g.frame o.fitting.on in
          let more : x.progress.observations + length s.obs ≤ length a₀ / 2 =
          subst (λ (z : Step). x.progress.observations + length z.obs ≤ length a₀ / 2) same (rw g.size at o.fitting.room) in
          let k : t.budget - x.progress.steps ≡ suc (t.budget - y.progress.steps) = let a = n.steps in let b = o.fitting.left in omega arith in
          record {
            observed = os ++ s.obs;
            sets = xs ++ (observed_set M s (gathered_of os xs x.progress) ∷ []);
            count = length-append os s.obs ∙ ap (λ (i : ℕ). i + length s.obs) g.count ∙ sym n.observations;
            trace = observed-more os s.obs x.trace y.trace a₀ x.progress.observations g.count g.trace n.trace (omega arith);
            size = trace-size ∙ g.size;
            frame = label-frame ∙ g.frame;
            rest =
                ap₂ (λ (N : Machine) (h : Gathered). run (step_by mode begun) begun (length a₀ / 2) (t.budget - y.progress.steps) N h)
                n.machine (n.gathered os xs)
                ∙ sym (run_step (step_by mode begun) begun (length a₀ / 2) (t.budget - y.progress.steps) M (gathered_of os xs x.progress) on
                (record { fit = roomy a₀ os xs s g.count more; storable = sym (ap (λ (z : Step). z.overfull) same) ∙ o.storable }))
                ∙ ap (λ (i : ℕ). run (step_by mode begun) begun (length a₀ / 2) i M (gathered_of os xs x.progress)) (sym k)
                ∙ g.rest;
          }

      made-full : y.progress.full ≡ union x.progress.full (next_step p t mode x).seen
      unfolding note
      made-full = ap (λ (g : Gathered). g.full) (m.gathered [] [])

      -- the words told of its set, and tell of all sets now
      pub settled_on : {w₀ a₀ : List ℕ} {R : Result} → Ahead p t mode w₀ a₀ x R → Settled p t mode w₀ a₀ y R
      unfolding running-on
      settled_on {w₀} g =
          let before = g.running in
          let M = machine_at x (locations t) in
          let s = step_by mode (code_in p t (drop labels w₀)) M in
          let same : next_step p t mode x ≡ s = ap (λ (ws : List ℕ). step_by mode (code_in p t ws) M) before.frame in
          let now-sets = before.sets ++ (observed_set M s (gathered_of before.observed before.sets x.progress) ∷ []) in
          let E = sym (next-observed x before.observed before.sets before.count)
          ∙ ap (λ (z : Step). observed_set M z (gathered_of before.observed before.sets x.progress)) same in
          let T = told-frame m.frame (told-joined before.sets (next_set p t mode x) g.told) in
          let T' = subst (λ (z : ObservedSet). Told y.work (union x.progress.full (next_step p t mode x).seen) (before.sets ++ (z ∷ []))) E T in
          record { running = running-on before; told = subst (λ (z : LocationSet). Told y.work z now-sets) (sym made-full) T' }

    -- ---- steps up to a count: from x, where the words tell of the next step's set, the run has come to y
    pub data Kept (x y : Standing) (w₀ a₀ : List ℕ) (R : Result) : Type 0 where
      first : y.progress.steps ≡ x.progress.steps → Ahead p t mode w₀ a₀ y R → Kept x y w₀ a₀ R
      later : Settled p t mode w₀ a₀ y R → Kept x y w₀ a₀ R

    -- a step that brings nothing in may be made from either
    kept_ahead : {x y : Standing} {w₀ a₀ : List ℕ} {R : Result} → Quiet p t mode y → Kept x y w₀ a₀ R → Ahead p t mode w₀ a₀ y R
    kept_ahead q (first e g) = g
    kept_ahead {y = y} q (later g) = record { running = g.running; told = told-within (next_set p t mode y) g.told q }

    -- after one step at least
    kept_settled : {x y : Standing} {w₀ a₀ : List ℕ} {R : Result} → x.progress.steps < y.progress.steps → Kept x y w₀ a₀ R
        → Settled p t mode w₀ a₀ y R
    kept_settled l (first e g) = absurd (omega arith)
    kept_settled l (later g) = g

    pub record Stepping (until : ℕ) (x y : Standing) : Type 0 where
      pub ready : Ready p t mode y
      pub least : x.progress.steps ≤ y.progress.steps
      pub most : until ≤ t.budget
      pub more : x.progress.steps < until
      pub on : y.progress.steps ≡ x.progress.steps → over (code_at p t y) (machine_at y (locations t)) ≡ false
      pub room : y.progress.steps < until → y.progress.observations + length (next_step p t mode y).obs ≤ length y.trace / 2
      pub free : y.progress.steps + 1 < until → y.progress.observations + 2 * (until - y.progress.steps) ≤ length y.trace / 2
      pub storable : y.progress.steps ≡ x.progress.steps → (next_step p t mode y).overfull ≡ false
      pub quiet : y.progress.steps ≡ x.progress.steps → Quiet p t mode y
      pub kept : (w₀ a₀ : List ℕ) (R : Result) → Ahead p t mode w₀ a₀ x R → Kept x y w₀ a₀ R

    pub stepping_starts : {until : ℕ} {x : Standing} → Unhindered p t mode until x → Stepping until x x
    stepping_starts u = let r = u.ready in let o = u.next in let f = u.free in record {
      ready = r;
      least = omega arith;
      most = f.most;
      more = f.more;
      on = λ e. o.fitting.on;
      room = λ h. o.fitting.room;
      free = f.free;
      storable = λ e. o.storable;
      quiet = λ e. u.quiet;
      kept = λ w₀ a₀ R g. first refl g;
    }

    module _ {until : ℕ} {x y : Standing} (s : Stepping until x y) where
      -- the next step may be made
      pub stepping_may : y.progress.steps < until → over_at y.progress.control.depth t.count y.progress.control.place ≡ false
          → (next_step p t mode y).overfull ≡ false → Permitted p t mode y
      stepping_may h on q = record { fitting = fitting y on (let b = s.most in omega arith) (s.room h); storable = q }

      pub stepping_on : {z : Standing} → y.progress.steps < until
          → over_at y.progress.control.depth t.count y.progress.control.place ≡ false
          → (next_step p t mode y).overfull ≡ false → Quiet p t mode y → Made (locations t) (next_step p t mode y) y z → Stepping until x z
      stepping_on {z} h on q quiet m =
          let o = stepping_may h on q in
          let a = m.steps in
          let b = m.observations in
          let size = trace-size o m in
          let two = step-most mode (code_at p t y) (machine_at y (locations t)) in
          let next = step-most mode (code_at p t z) (machine_at z (locations t)) in
          record {
            ready = ready_on o m s.ready;
            least = let l = s.least in omega arith;
            most = s.most;
            more = s.more;
            on = λ e. absurd (let l = s.least in omega arith);
            room = λ i. let f = s.free (omega arith) in omega arith;
            free = λ i. let f = s.free (omega arith) in omega arith;
            storable = λ e. absurd (let l = s.least in omega arith);
            quiet = λ e. absurd (let l = s.least in omega arith);
            kept = λ w₀ a₀ R g. later (settled_on o m (kept_ahead quiet (s.kept w₀ a₀ R g)));
          }

      -- what is next there, by the rule that the code has named
      module _ {r : Rule} (named : (w : List ℕ) (n : ℕ)
          → r ≡ rule_at t.count y.progress.control.depth (machine_of w y.progress.control n)) where
        pub back-next : r ≡ rule.RollBack → Going y.progress.control t.count y.work (locations t) true
        back-next e = back-named y.progress.control t.count y.work (locations t) (sym e ∙ named y.work (locations t))

        pub advance_next : r ≡ rule.Advance → Going y.progress.control t.count y.work (locations t) false
        advance_next e = advance_named y.progress.control t.count y.work (locations t) (sym e ∙ named y.work (locations t))

      further : (x.progress.steps ≡ y.progress.steps → ⊥) → x.progress.steps < y.progress.steps
      further n = let l = s.least in omega arith

      goes_on : x.progress.steps < y.progress.steps → GoesOn p t mode x y
      goes_on l = record { further = l; ready = s.ready; kept = λ w₀ a₀ R g. kept_settled l (s.kept w₀ a₀ R g) }

      abbrev next : Step
      next = next_step p t mode y

      -- a step that was tried has been made where the count of steps is another
      pub moved_made : {z : Standing} → Tried (locations t) next y z → (z.progress.steps ≡ y.progress.steps → ⊥)
          → (next.overfull ≡ false) × Quiet p t mode y × Made (locations t) next y z
      moved_made {z} a n = go (subset next.seen y.progress.full) next.overfull refl refl
        where
          go : (k b : Bool) → subset next.seen y.progress.full ≡ k → next.overfull ≡ b
              → (next.overfull ≡ false) × Quiet p t mode y × Made (locations t) next y z
          go k true q e = absurd (n (ap (λ (u : Standing). u.progress.steps) (a.unmade e)))
          go false false q e = absurd (n (ap (λ (u : Standing). u.progress.steps) (a.new q)))
          go true false q e = (e, q, a.made q e)

      -- and else nothing was done: the step brings a location in, or is a store that cannot be made; and some step was made before
      pub stepping_stuck : {z : Standing} → Tried (locations t) next y z → z.progress.steps ≡ y.progress.steps
          → GoesOn p t mode x (standing z.work z.trace y.progress)
      stepping_stuck {z} a n = go (subset next.seen y.progress.full) next.overfull refl refl
        where
          stays : z ≡ y → (x.progress.steps ≡ y.progress.steps → ⊥) → GoesOn p t mode x (standing z.work z.trace y.progress)
          stays q l =
              subst (GoesOn p t mode x) (sym (ap (λ (u : Standing). standing u.work u.trace y.progress) q)) (goes_on (further l))

          go : (k b : Bool) → subset next.seen y.progress.full ≡ k → next.overfull ≡ b
              → GoesOn p t mode x (standing z.work z.trace y.progress)
          go k true q e = stays (a.unmade e) (λ u. true≢false (sym e ∙ s.storable (sym u)))
          go false false q e = stays (a.new q) (λ u. true≢false (sym (s.quiet (sym u)) ∙ q))
          go true false q e = absurd (let m = (a.made q e).steps in omega arith)

      -- so many steps are made, or the run is over
      pub stepping_made : until ≤ y.progress.steps → GoesOn p t mode x y
      stepping_made h = goes_on (let m = s.more in omega arith)

      pub stepping_over : {r : Rule}
          → ((w : List ℕ) (n : ℕ) → r ≡ rule_at t.count y.progress.control.depth (machine_of w y.progress.control n)) → r ≡ rule.Over
          → GoesOn p t mode x y
      stepping_over named e =
          let h = over-named y.progress.control t.count y.work (locations t) (sym e ∙ named y.work (locations t)) in
          goes_on (further (λ z. true≢false (sym (over-tested y ∙ h) ∙ s.on (sym z))))

    -- ---- a run begins, and ends
    pub ready-start : (w a : List ℕ) → Loaded p t w → working_words ≤ length w → Ready p t mode (standing w a beginning)
    unfolding beginning
    ready-start w a l h = record {
      steady = record { loaded = l; fits = record { room = h; bound = (refl, omega arith); opened = omega arith; log = tt }; closed = λ e. refl };
      counted = record { opened = omega arith; steps = omega arith; room = omega arith; observed = omega arith };
      budget = omega arith;
    }

    pub settled_start : (w a : List ℕ) → Settled p t mode w a (standing w a beginning) (whole p t mode w a)
    unfolding whole beginning written trace_words
    settled_start w a =
        let z : t.budget - 0 ≡ t.budget = omega arith in
        record {
          running = record { observed = []; sets = []; count = refl; trace = refl; size = refl; frame = refl; rest = rw z };
          told = told-start w;
        }

    -- words that are the same from the table of labels on are as many
    same_size : (w w₀ : List ℕ) → drop labels w ≡ drop labels w₀ → working_words ≤ length w → length w ≡ length w₀
    same_size w w₀ f h =
        let e : length w - labels ≡ length w₀ - labels = sym (length-drop labels w) ∙ ap length f ∙ length-drop labels w₀ in omega arith

    -- the words u are those of x, or have the next step's set recorded
    pub ends : {w₀ a₀ : List ℕ} {x : Standing} {s : Stop} {c : Progress} {after : List ObservedSet → List ObservedSet} {R : Result} (u : List ℕ)
        → Ready p t mode x → (g : Running p t mode w₀ a₀ x R) → Halts p t mode x s c after
        → SameMachine x.work u → drop labels u ≡ drop labels x.work → Told u c.full (after g.sets) → RanTo t w₀ a₀ u x.trace (report_of s c) R
    unfolding ended counts
    ends {w₀} {a₀} {x} {s} {c} {after} {R} u r g h q f told =
        let M = machine_at x (locations t) in
        let sofar = gathered_of g.observed g.sets x.progress in
        let last = gathered_of g.observed (after g.sets) c in
        let begun = code_in p t (drop labels w₀) in
        let k = t.budget - x.progress.steps in
        let halts : run (step_by mode begun) begun (length a₀ / 2) k M sofar ≡ ended s M last =
        subst (λ (ws : List ℕ). run (step_by mode (code_in p t ws)) (code_in p t ws) (length a₀ / 2) k M sofar ≡ ended s M last) g.frame
        (rw g.size at (h.stops g.observed g.sets g.count)) in
        let e : ended s M last ≡ R = sym halts ∙ g.rest in
        let same : g.observed ≡ R.gathered.trace = ap (λ (z : Result). z.gathered.trace) e in
        let S = q.machine x.progress.control (locations t) r.steady.fits (locations-most r.steady.loaded.limits) in
        record {
          ends = record {
            reports = record {
              counts = λ i. record {
                stop = (e i).stop;
                observations = (h.counted ∙ sym g.count ∙ ap length same) i;
                steps = (e i).gathered.steps;
                rollbacks = (e i).gathered.rollbacks;
              };
              full = ap (λ (z : Result). z.gathered.full) e;
              plain = ap (λ (z : Result). z.gathered.plain) e;
            };
            trace = rw same at g.trace;
            state = ap (λ (N : Machine). N.state) S ∙ ap (λ (z : Result). z.last.state) e;
            firsts = told-firsts told ∙ ap (λ (z : Result). firsts_of z.gathered.sets) e;
          };
          frame = f ∙ g.frame;
          size = same_size u w₀ (f ∙ g.frame) (q.fits x.progress.control r.steady.fits).room;
        }

    pub run_ends : {w₀ a₀ : List ℕ} {x : Standing} {s : Stop} {R : Result} {r : Ran} → r ≡ report_of s x.progress → Ready p t mode x
        → Settled p t mode w₀ a₀ x R → Halts p t mode x s x.progress (λ xs. xs) → RanTo t w₀ a₀ x.work x.trace r R
    run_ends {w₀} {a₀} {x} {R = R} e q g h =
        subst (λ (r : Ran). RanTo t w₀ a₀ x.work x.trace r R) (sym e)
        (ends x.work q g.running h (machine-refl x.work) refl g.told)
