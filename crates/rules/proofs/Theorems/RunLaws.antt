-- The five ways a run of the machine goes on, the induction over a run, and what every run keeps: at most b steps, at most
-- the room's observations, and D only grows and holds the plain set.
-- Assumes nothing.
use Rattle.std.specs.Prelude.{◌≡◌, refl, Bool, true, ℕ, zero, suc, ◌+◌, ◌≤◌}
use Rattle.std.proofs.Common.{sym, ◌∙◌, length-append, leb-true}
use Rattle.std.proofs.Math.Bool.{false}
use mathlib.Core.List.{List, [], ◌∷◌}
use native.Mathlib.Omega.{arith}
use Rattle.std.proofs.Math.ListN.{length}
use Rattle.location.specs.declared.LocationSet.{LocationSet}
use Rattle.location.specs.Sets.{empty, union}
use Rattle.location.specs.SetLaws.{Within, within-refl, within-left, within_trans, within-union_mono}
use Rattle.rules.specs.declared.Stop.{Stop}
use Rattle.rules.specs.declared.Stop.TheVariants.{Finished, Spent, TraceFull, OutsideFull}
use Rattle.rules.specs.Rules.Mispredicting.{Branch, Machine, Step, step, plain_step}
use Rattle.rules.specs.Rules.Plain.{Code}
use Rattle.rules.specs.Rules.Loop.{Halt, proceed, halted, ended}
use Rattle.rules.specs.Rules.Runs.{Gathered, Result, gather, note, note_unmade, over, fits, halt_by, halt, run}
use Rattle.rules.specs.Rules.Runs.{Job, first, blank, mispredicting_run, plain_run}
use Rattle.rules.proofs.Theorems.LoopLaws.{loop-over, loop_spent, loop-halted, loop-step, loop_ind}

-- ---- what halts the run before a step
-- a step can be made where its observations fit and it does not need one address too many
pub record Makes (room : ℕ) (s : Step) (g : Gathered) : Type 0 where
  pub fit : fits room s g ≡ true
  pub storable : s.overfull ≡ false

module _ (f : Machine → Step) (room : ℕ) (M : Machine) (g : Gathered) where
  halt-makes : Makes room (f M) g → halt f room M g ≡ proceed
  unfolding halt
  halt-makes e = rw (e.fit, e.storable)

  halt-full : fits room (f M) g ≡ false → halt f room M g ≡ halted TraceFull g
  unfolding halt
  halt-full e = rw e

  halt-outside : fits room (f M) g ≡ true → (f M).overfull ≡ true → halt f room M g ≡ halted OutsideFull (note_unmade M (f M) g)
  unfolding halt
  halt-outside e o = rw (e, o)

proceed-halted : {P : Type 0} (x : Stop) (g : Gathered) → ◌≡◌ {A = Halt Gathered} proceed (halted x g) → P
proceed-halted x g e = absurd (let z : ◌≡◌ {A = ℕ} 0 1 = cc in omega arith)

-- what `halt_by` says where it lets the run proceed
proceeds : (b o : Bool) (g h : Gathered) → halt_by b o g h ≡ proceed → (b ≡ true) × (o ≡ false)
proceeds true false g h e = (refl, refl)
proceeds true true g h e = proceed-halted OutsideFull h (sym e)
proceeds false o g h e = proceed-halted TraceFull g (sym e)

-- and where it halts the run with the stop x and what is then gathered
data Halts (b o : Bool) (g h : Gathered) (x : Stop) (k : Gathered) : Type 0 where
  full : b ≡ false → x ≡ TraceFull → k ≡ g → Halts b o g h x k
  outside : b ≡ true → o ≡ true → x ≡ OutsideFull → k ≡ h → Halts b o g h x k

halts : (b o : Bool) (g h : Gathered) (x : Stop) (k : Gathered) → halt_by b o g h ≡ halted x k → Halts b o g h x k
halts true false g h x k e = proceed-halted x k e
halts true true g h x k e =
    let q : x ≡ OutsideFull = cc in
    let r : k ≡ h = cc in
    outside refl refl q r
halts false o g h x k e =
    let q : x ≡ TraceFull = cc in
    let r : k ≡ g = cc in
    full refl q r

module _ (f : Machine → Step) (code : Code) (room : ℕ) where
  pub run-over : (k : ℕ) (M : Machine) (g : Gathered) → over code M ≡ true → run f code room k M g ≡ ended Finished M g
  unfolding run
  run-over k M g e = loop-over (over code) (halt f room) (λ (N : Machine). (f N).next) (λ (N : Machine) (h : Gathered). note N (f N) h) k M g e

  pub run_spent : (M : Machine) (g : Gathered) → over code M ≡ false → run f code room zero M g ≡ ended Spent M g
  unfolding run
  run_spent M g e = loop_spent (over code) (halt f room) (λ (N : Machine). (f N).next) (λ (N : Machine) (h : Gathered). note N (f N) h) M g e

  pub run-full : (k : ℕ) (M : Machine) (g : Gathered) → over code M ≡ false → fits room (f M) g ≡ false
      → run f code room (suc k) M g ≡ ended TraceFull M g
  unfolding run
  run-full k M g e h =
      loop-halted (over code) (halt f room) (λ (N : Machine). (f N).next) (λ (N : Machine) (h : Gathered). note N (f N) h) k M g g TraceFull e
      (halt-full f room M g h)

  pub run-outside : (k : ℕ) (M : Machine) (g : Gathered) → over code M ≡ false → fits room (f M) g ≡ true → (f M).overfull ≡ true
      → run f code room (suc k) M g ≡ ended OutsideFull M (note_unmade M (f M) g)
  unfolding run
  run-outside k M g e h o =
      loop-halted (over code) (halt f room) (λ (N : Machine). (f N).next) (λ (N : Machine) (h : Gathered). note N (f N) h) k M g
      (note_unmade M (f M) g) OutsideFull e (halt-outside f room M g h o)

  pub run_step : (k : ℕ) (M : Machine) (g : Gathered) → over code M ≡ false → Makes room (f M) g
      → run f code room (suc k) M g ≡ run f code room k (f M).next (note M (f M) g)
  unfolding run
  run_step k M g e h =
      loop-step (over code) (halt f room) (λ (N : Machine). (f N).next) (λ (N : Machine) (h : Gathered). note N (f N) h) k M g e
      (halt-makes f room M g h)

  -- What holds at each way out, and is carried back over each step made, holds of a run.
  module _
      (P : ℕ → Machine → Gathered → Result → Type 0)
      (at-over : (k : ℕ) (M : Machine) (g : Gathered) → over code M ≡ true → P k M g (ended Finished M g))
      (at-spent : (M : Machine) (g : Gathered) → over code M ≡ false → P zero M g (ended Spent M g))
      (at-full : (k : ℕ) (M : Machine) (g : Gathered) → over code M ≡ false → fits room (f M) g ≡ false → P (suc k) M g (ended TraceFull M g))
      (at-outside : (k : ℕ) (M : Machine) (g : Gathered) → over code M ≡ false → fits room (f M) g ≡ true → (f M).overfull ≡ true
      → P (suc k) M g (ended OutsideFull M (note_unmade M (f M) g)))
      (at-step : (k : ℕ) (M : Machine) (g : Gathered) → over code M ≡ false → Makes room (f M) g
      → P k (f M).next (note M (f M) g) (run f code room k (f M).next (note M (f M) g))
      → P (suc k) M g (run f code room k (f M).next (note M (f M) g))) where
    pub run_ind : (k : ℕ) (M : Machine) (g : Gathered) → P k M g (run f code room k M g)
    unfolding run halt
    run_ind =
        loop_ind (over code) (halt f room) (λ (N : Machine). (f N).next) (λ (N : Machine) (h : Gathered). note N (f N) h) P at-over at-spent
        (λ k M g h x e q. stopped k M g h x e (halts (fits room (f M) g) (f M).overfull g (note_unmade M (f M) g) x h q))
        (λ k M g e q r.
        let d = proceeds (fits room (f M) g) (f M).overfull g (note_unmade M (f M) g) q in
        at-step k M g e (record { fit = d.0; storable = d.1 }) r)
      where
        stopped : (k : ℕ) (M : Machine) (g h : Gathered) (x : Stop) → over code M ≡ false
            → Halts (fits room (f M) g) (f M).overfull g (note_unmade M (f M) g) x h → P (suc k) M g (ended x M h)
        stopped k M g h x e (full b ex eh) = rw (ex, eh) (at-full k M g e b)
        stopped k M g h x e (outside b o ex eh) = rw (ex, eh) (at-outside k M g e b o)

  -- D only grows
  pub full_grows : (k : ℕ) (M : Machine) (g : Gathered) → Within g.full (run f code room k M g).gathered.full
  unfolding ended note note_unmade
  full_grows =
      run_ind (λ k M g r. Within g.full r.gathered.full) (λ k M g e. within-refl g.full) (λ M g e. within-refl g.full)
      (λ k M g e h. within-refl g.full) (λ k M g e h o. within-left g.full (f M).seen)
      (λ k M g e h p. within_trans (within-left g.full (f M).seen) p)

  -- at most k steps are made
  pub steps-bound : (k : ℕ) (M : Machine) (g : Gathered) → (run f code room k M g).gathered.steps ≤ g.steps + k
  unfolding ended note note_unmade
  steps-bound =
      run_ind (λ k M g r. r.gathered.steps ≤ g.steps + k) (λ k M g e. omega arith) (λ M g e. omega arith)
      (λ k M g e h. omega arith) (λ k M g e h o. omega arith) (λ k M g e h p. omega arith)

  -- the trace never outgrows its room
  pub trace-bound : (k : ℕ) (M : Machine) (g : Gathered) → length g.trace ≤ room → length (run f code room k M g).gathered.trace ≤ room
  unfolding ended note note_unmade fits
  trace-bound =
      run_ind (λ k M g r. length g.trace ≤ room → length r.gathered.trace ≤ room) (λ k M g e h. h) (λ M g e h. h)
      (λ k M g e h p. p) (λ k M g e h o p. p)
      (λ k M g e h p q. p (rw (length-append g.trace (f M).obs) (leb-true (length g.trace + length (f M).obs) room h.fit)))

  plain-gathered : (bs : List Branch) (P F s : LocationSet) → Within P F → Within (gather bs P s) (union F s)
  unfolding gather
  plain-gathered [] P F s w = within-union_mono s w
  plain-gathered (b ∷ bs) P F s w = within_trans w (within-left F s)

  -- the plain set lies within D
  pub plain-within : (k : ℕ) (M : Machine) (g : Gathered) → Within g.plain g.full
      → Within (run f code room k M g).gathered.plain (run f code room k M g).gathered.full
  unfolding ended note note_unmade
  plain-within =
      run_ind (λ k M g r. Within g.plain g.full → Within r.gathered.plain r.gathered.full) (λ k M g e w. w) (λ M g e w. w)
      (λ k M g e h w. w) (λ k M g e h o w. plain-gathered M.branches g.plain g.full (f M).seen w)
      (λ k M g e h p w. p (plain-gathered M.branches g.plain g.full (f M).seen w))

-- ---- of a job's mispredicting run
module _ (job : Job) (room : ℕ) where
  pub mispredicting_steps : (mispredicting_run job room).gathered.steps ≤ job.budget
  unfolding mispredicting_run blank
  mispredicting_steps = let h = steps-bound (step job.code) job.code room job.budget (first job) blank in omega arith

  pub mispredicting_trace : length (mispredicting_run job room).gathered.trace ≤ room
  unfolding mispredicting_run blank
  mispredicting_trace = trace-bound (step job.code) job.code room job.budget (first job) blank (omega arith)

  pub mispredicting_plain : Within (mispredicting_run job room).gathered.plain (mispredicting_run job room).gathered.full
  unfolding mispredicting_run blank
  mispredicting_plain = plain-within (step job.code) job.code room job.budget (first job) blank (within-refl empty)

  pub plain-steps : (plain_run job room).gathered.steps ≤ job.budget
  unfolding plain_run blank
  plain-steps = let h = steps-bound (plain_step job.code) job.code room job.budget (first job) blank in omega arith

  pub plain-trace : length (plain_run job room).gathered.trace ≤ room
  unfolding plain_run blank
  plain-trace = trace-bound (plain_step job.code) job.code room job.budget (first job) blank (omega arith)

-- Two step functions that agree on machines of a class which the first one keeps make the same run from such a machine.
module _ (f f' : Machine → Step) (code code' : Code) (room : ℕ) (C : Machine → Type 0)
    (same : (M : Machine) → C M → f M ≡ f' M)
    (keeps : (M : Machine) → C M → C (f M).next)
    (overs : (M : Machine) → over code' M ≡ over code M) where
  pub run-same : (k : ℕ) (M : Machine) (g : Gathered) → C M → run f code room k M g ≡ run f' code' room k M g
  run-same =
      run_ind f code room (λ k M g r. C M → r ≡ run f' code' room k M g)
      (λ k M g e c. sym (run-over f' code' room k M g (overs M ∙ e)))
      (λ M g e c. sym (run_spent f' code' room M g (overs M ∙ e)))
      (λ k M g e h c. sym (run-full f' code' room k M g (overs M ∙ e) (rw (← same M c) h)))
      (λ k M g e h o c.
      rw (same M c) (sym (run-outside f' code' room k M g (overs M ∙ e) (rw (← same M c) h) (rw (← same M c) o))))
      (λ k M g e h p c.
      p (keeps M c) ∙ rw (same M c) (sym (run_step f' code' room k M g (overs M ∙ e) (rw (← same M c) h))))
