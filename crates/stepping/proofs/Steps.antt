-- Each rule of a step, from its parts: the machine's move, the words stored in the trace area, and the counts.
-- Assumes nothing.
use mathlib.Core.Path.{◌≡◌, refl, sym, ap, ◌∙◌, subst}
use mathlib.Core.Bool.{Bool, true, false, not, true≢false}
use mathlib.Core.List.{List, [], ◌∷◌, ◌++◌, append-nil}
use Prim.Native.Nat.{ℕ, suc, ◌+◌, ◌*◌, ◌<◌, ◌≤◌, max}
use native.Mathlib.Numerals.{add-one}
use native.Mathlib.Omega.{arith}
use lib.ListN.{length, drop}
use lib.Seq.{sets}
use Rattle.location.specs.declared.LocationSet.{LocationSet}
use Rattle.location.specs.declared.Label.{Label}
use Rattle.location.specs.Sets.{registers, limit, empty, union}
use Rattle.rules.specs.declared.Tagged.{Tagged}
use Rattle.rules.specs.Rules.Calls.{observation_words, trace_words}
use Rattle.rules.specs.Rules.Instructions.{Instr, beqz, Observation, pc, stored}
use Rattle.rules.specs.Rules.Firsts.{ObservedSet}
use Rattle.rules.specs.Rules.Outside.{remember, overfull}
use Rattle.rules.specs.Rules.Plain.{State, at, put, with_outside, Code, loaded_from, stored_to, store_overfull, branch_to}
use Rattle.rules.specs.Rules.Plain.{silent, load_effect, store_effect, go_effect}
use Rattle.rules.specs.Rules.Plain as plain
use Rattle.rules.specs.Rules.Mispredicting.{Branch, Machine, Step, remaining, lower, new_window, rolling, opening, step_with}
use Rattle.rules.specs.Rules.Runs.{observed_set, note}
use Rattle.instruction.specs.declared.Instruction.{Instruction}
use Rattle.instruction.specs.declared.Instruction.TheVariants.{BranchZero}
use Rattle.instruction.specs.Meaning.{meaning}
use Rattle.work.specs.declared.machine.Control.{Control}
use Rattle.work.specs.declared.machine.RolledBack.{RolledBack}
use Rattle.work.specs.Layout.{reports, labels}
use Rattle.work.specs.Words.{tagged_at, branch_at, change_at, costs_in}
use Rattle.work.specs.Machines.{table_in, state_in, machine_of, Fit}
use Rattle.work.specs.Moves.{lower_to, window_on, ordinary_next, gone, opening_next, Moves, RollsBack}
use Rattle.work.proofs.States.{state-at}
use Rattle.work.proofs.Moves.{go_law}
use Rattle.std.proofs.Common.{Option, None, Some}
use Rattle.outside.specs.Stores.{StoreTried}
use Rattle.evaluation.proofs.Laws.{inside-fits, outside-fits}
use Rattle.stepping.specs.declared.Progress.{Progress}
use Rattle.stepping.specs.Progress.{standing, gathered_of, rolled_back, progress_after}
use Rattle.stepping.specs.Steps.{Unexpired, Leaves, Lowers, left_by, lowered_by, Made, Attempted, RolledBackTo, OpenedTo, CarriedOut, TriedOut, StateKept}
use Rattle.stepping.specs.Steps.{word_effect, outside_effect}
use Rattle.stepping.proofs.Laws.{gathered, counted_back, depth_of, length-lower, top-lowered, window-lowered, left-some}

-- ---- any step
module _ (w w' t t' : List ℕ) (c c' : Progress) (n : ℕ) (s : Step) (control : Control)
    (counted : c' ≡ progress_after c control (length s.obs) s.seen) where
  -- the counts and sets are what the rules have gathered after the step
  noted : rolled_back control ≡ rolled_back c.control + s.back → (os : List Observation) (xs : List ObservedSet)
      → (let M = machine_of w c.control n in let g = gathered_of os xs c in
      gathered_of (os ++ s.obs) (xs ++ (observed_set M s g ∷ [])) c' ≡ note M s g)
  unfolding note
  noted R os xs =
      let more = xs ++ (observed_set (machine_of w c.control n) s (gathered_of os xs c) ∷ []) in
      let P = gathered (branch_at w) (change_at w) (state_in w n) c.control.window c.control.log c.control.depth c.plain s.seen in
      ap (gathered_of (os ++ s.obs) more) counted
      ∙ (λ i. record {
        trace = os ++ s.obs;
        steps = add-one c.steps i;
        rollbacks = R i;
        full = union c.full s.seen;
        plain = P i;
        sets = more;
      })

  made_of : machine_of w' control n ≡ s.next → Fit w' control → drop reports w' ≡ drop reports w
      → t' ≡ sets t (2 * c.observations) (trace_words s.obs) → s.next.opened ≤ c.control.opened + 1
      → s.next.opened + c.control.depth ≡ c.control.opened + length s.next.branches + s.back
      → (0 < s.back → c.control.depth ≤ c.control.opened) → Made n s (standing w t c) (standing w' t' c')
  made_of m f r e o b h =
      let C = ap (λ (x : Progress). x.control) counted in
      let O = ap (λ (M : Machine). M.opened) m in
      let D = depth_of w' control n ∙ ap (λ (M : Machine). length M.branches) m in
      let O' = ap (λ (x : Progress). x.control.opened) counted in
      record {
        machine = ap (λ (x : Control). machine_of w' x n) C ∙ m;
        fits = subst (Fit w') (sym C) f;
        frame = r;
        trace = e;
        observations = ap (λ (x : Progress). x.observations) counted;
        gathered = noted (counted_back c.control.opened c.control.depth control.opened control.depth s.back (omega arith) h);
        opened = omega arith;
        steps = ap (λ (x : Progress). x.steps) counted;
      }

-- ---- rule 1
pub rolled-back : {w w' t t' : List ℕ} {c c' : Progress} {r : RolledBack} {seen : LocationSet} → RollsBack w w' c.control r
    → c.control.depth ≤ c.control.opened → t' ≡ sets t (2 * c.observations) (1 ∷ r.id ∷ 2 ∷ r.target ∷ []) → seen ≡ empty
    → c' ≡ progress_after c r.control 2 seen → RolledBackTo (standing w t c) (standing w' t' c')
unfolding rolling trace_words
rolled-back {w} {w'} {t} {t'} {c} {c'} {r} {seen} m h et es ec =
    record {
      made = λ n b bs hn e.
          let I = m.id n b bs e in
          let T = m.target n b bs e in
          let D = depth_of w c.control n ∙ ap length e in
          made_of w w' t t' c c' n (rolling (machine_of w c.control n) b bs) r.control (ec ∙ ap (progress_after c r.control 2) es)
          (m.machine n b bs hn e) m.fits m.frame (et ∙ (λ i. sets t (2 * c.observations) (1 ∷ I i ∷ 2 ∷ T i ∷ []))) (omega arith) (omega arith)
          (λ z. h);
    }

-- ---- what an instruction leaves of the top's window, in the machine; u with nothing open
module _ (w : List ℕ) (c : Control) (n u v : ℕ) (i : Instr) (code : Code) (left : v ≡ left_by u code i c) where
  abbrev open_branches : List Branch
  open_branches = (machine_of w c n).branches

  branches-left : lower_to v open_branches ≡ lower code i open_branches
  branches-left =
      ap (λ (t : ℕ). lower_to t open_branches) left ∙ top-lowered code i (branch_at w) (change_at w) (state_in w n) u c.window c.log c.depth

  new-left : window_on open_branches code.window v ≡ new_window code (lower code i open_branches)
  new-left =
      ap (window_on open_branches code.window) left
      ∙ window-lowered code i (branch_at w) (change_at w) (state_in w n) u c.window c.log c.depth

-- ---- rule 2
pub opened : {w w' t t' : List ℕ} {c c' : Progress} {r window wrong target v : ℕ} {l : Label} {x : Tagged} {control : Control} → r < registers
    → Moves w w' c.control control (λ M. opening_next M wrong target window v) → x ≡ tagged_at w r
    → target ≡ branch_to x l.0 (c.control.place + 1) → wrong ≡ branch_to x (c.control.place + 1) l.0
    → Leaves w c.control (BranchZero r l) v
    → t' ≡ sets t (2 * c.observations) (0 ∷ c.control.opened ∷ 2 ∷ wrong ∷ []) → c' ≡ progress_after c control 2 x.deps
    → OpenedTo r l.0 window (standing w t c) (standing w' t' c')
unfolding opening trace_words
opened {w} {w'} {t} {t'} {c} {c'} {r} {window} {wrong} {target} {v} {l} {x} {control} hr m ex eg ew left et ec =
    record {
      made = λ n code h hn hw hc.
          let M = machine_of w c.control n in
          let A : x ≡ at (state_in w n) r = ex ∙ sym (state-at w n r (omega arith)) in
          let N = add-one c.control.place in
          let G = eg ∙ (λ i. branch_to (A i) l.0 (N i)) in
          let W = ew ∙ (λ i. branch_to (A i) (N i) l.0) in
          let B = branches-left w c.control n c.control.window v (beqz r l.0) code (left.exact [] code hc) in
          let U = ap (λ (u : ℕ). window_on M.branches u v) (sym hw)
          ∙ new-left w c.control n c.control.window v (beqz r l.0) code (left.exact [] code hc) in
          made_of w w' t t' c c' n (opening code M r l.0) control (ec ∙ ap (λ (y : Tagged). progress_after c control 2 y.deps) A)
          (m.machine n hn
          ∙ (λ i. record {
            state = M.state;
            place = W i;
            branches = record { id = M.opened; saved = M.state; target = G i; window = U i } ∷ B i;
            opened = suc M.opened;
          }))
          m.fits m.frame (et ∙ (λ i. sets t (2 * c.observations) (0 ∷ c.control.opened ∷ 2 ∷ W i ∷ []))) (omega arith)
          (let D = depth_of w c.control n in let L = length-lower code (beqz r l.0) M.branches in omega arith) (λ z. absurd (omega arith));
    }

-- ---- rule 3: from the machine's move to state σ and place q, with v left of the top's window
module _ {n : ℕ} {w w' t t' : List ℕ} {c c' : Progress} (i : Instruction) {v q : ℕ} {control : Control} {σ : State}
    (m : machine_of w' control n ≡ ordinary_next (machine_of w c.control n) σ q v) (fits : Fit w' control) (frame : drop reports w' ≡ drop reports w)
    (p : List ℕ) (code : Code) (u : ℕ) (left : v ≡ left_by u code (meaning p i) c.control) where
  -- the effect x is that state, that place, and what was counted and written
  carried : (x : plain.Effect) → σ ≡ x.state → q ≡ x.place → t' ≡ sets t (2 * c.observations) (trace_words x.obs)
      → c' ≡ progress_after c control (length x.obs) x.seen
      → Made n (step_with code (machine_of w c.control n) (meaning p i) x) (standing w t c) (standing w' t' c')
  carried x es eq et ec =
      let M = machine_of w c.control n in
      let B = branches-left w c.control n u v (meaning p i) code left in
      made_of w w' t t' c c' n (step_with code M (meaning p i) x) control ec
      (m ∙ (λ j. record { state = es j; place = eq j; branches = B j; opened = M.opened })) fits frame et (omega arith)
      (let D = depth_of w c.control n in let L = length-lower code (meaning p i) M.branches in omega arith) (λ z. absurd (omega arith))

  -- nothing is shown
  carried_silently : {s : LocationSet} → q ≡ c.control.place + 1 → t' ≡ t → s ≡ empty → c' ≡ progress_after c control 0 s
      → Made n (step_with code (machine_of w c.control n) (meaning p i) (silent σ c.control.place)) (standing w t c) (standing w' t' c')
  unfolding trace_words
  carried_silently eq et es ec =
      carried (silent σ c.control.place) refl (eq ∙ add-one c.control.place) et (ec ∙ ap (progress_after c control 0) es)

  -- one observation is shown, of the kind a with the value b
  carried-shown : {a b : ℕ} (o : Observation) {s : LocationSet} (τ : State) (r : ℕ) (f : Bool) → σ ≡ τ → q ≡ r
      → a ∷ b ∷ [] ≡ observation_words o → t' ≡ sets t (2 * c.observations) (a ∷ b ∷ []) → c' ≡ progress_after c control 1 s
      → Made n (step_with code (machine_of w c.control n) (meaning p i) (record { state = τ; place = r; obs = o ∷ []; seen = s; overfull = f }))
      (standing w t c) (standing w' t' c')
  unfolding trace_words
  carried-shown o {s} τ r f es eq eo et ec =
      carried (record { state = τ; place = r; obs = o ∷ []; seen = s; overfull = f }) es eq
      (et ∙ ap (sets t (2 * c.observations)) (eo ∙ sym (append-nil (observation_words o)))) ec

-- ---- rule 3 for an instruction that gives location l the word x
module _ {w w' t t' : List ℕ} {c c' : Progress} {i : Instruction} {v : ℕ} {control : Control} (l : ℕ) (x : Tagged) (leaves : Leaves w c.control i v)
    (m : Moves w w' c.control control (λ M. ordinary_next M (put M.state l x) (c.control.place + 1) v)) (n : ℕ) (most : n ≤ limit)
    (p : List ℕ) (code : Code) (costs : code.costs ≡ costs_in (drop labels w)) where
  pub assigned : (r : ℕ) {s : LocationSet} → l ≡ r → t' ≡ t → s ≡ empty → c' ≡ progress_after c control 0 s
      → Made n (step_with code (machine_of w c.control n) (meaning p i) (silent (put (state_in w n) r x) c.control.place)) (standing w t c)
      (standing w' t' c')
  assigned r el et es ec =
      let m' = m.machine n most ∙ (λ j. ordinary_next (machine_of w c.control n) (put (state_in w n) (el j) x) (c.control.place + 1) v) in
      carried_silently i m' m.fits m.frame p code c.control.window (leaves.exact p code costs) refl et es ec

  -- and shows an observation
  pub assigned_shown : {a b : ℕ} (o : Observation) {s : LocationSet} (r : ℕ) (y : Tagged) → l ≡ r → x ≡ y → a ∷ b ∷ [] ≡ observation_words o
      → t' ≡ sets t (2 * c.observations) (a ∷ b ∷ []) → c' ≡ progress_after c control 1 s
      → Made n (step_with code (machine_of w c.control n) (meaning p i)
      (record { state = put (state_in w n) r y; place = suc c.control.place; obs = o ∷ []; seen = s; overfull = false })) (standing w t c)
      (standing w' t' c')
  assigned_shown o r y el ex eo et ec =
      carried-shown i (m.machine n most) m.fits m.frame p code c.control.window (leaves.exact p code costs) o (put (state_in w n) r y)
      (suc c.control.place) false
      (λ j. put (state_in w n) (el j) (ex j)) (add-one c.control.place) eo et ec

-- ---- rule 3 for an instruction that changes no location
-- from what the callees give
pub kept : {w : List ℕ} {c c' : Progress} {i : Instruction} {q k v : ℕ} {control : Control} {s s' : LocationSet} → Lowers w c.control i v
    → control ≡ gone c.control q v → s' ≡ s → c' ≡ progress_after c control k s' → StateKept w q k s i c c'
kept {w} {c} {c'} {i} {q} {k} lowers eg es ec = record {
  exact = λ p code costs.
      let L = lowers.exact p code costs in
      ec ∙ (λ j. progress_after c ((eg ∙ (λ u. gone c.control q (L u))) j) k (es j));
}

module _ {w t : List ℕ} {c c' : Progress} {i : Instruction} {cells : ℕ} (live : Unexpired w c) (most : registers + cells ≤ limit) where
  pub kept_silently : StateKept w (c.control.place + 1) 0 empty i c c'
      → CarriedOut cells i (λ code σ. silent σ c.control.place) (standing w t c) (standing w t c')
  kept_silently h = record {
    made = λ p code ec costs.
        let v = lowered_by code (meaning p i) c.control in
        let u = max 1 (remaining code (meaning p i) c.control.window) in
        let left = left-some u (omega arith) code (rw costs live.costs) (meaning p i) c.control live.window in
        let m = go_law w c.control (c.control.place + 1) v live.fits left in
        carried_silently i (m.machine (registers + cells) most) m.fits m.frame p code u refl refl refl refl (h.exact p code costs);
  }

  pub kept-shown : {t' : List ℕ} (q : ℕ) (x : Tagged) → StateKept w q 1 x.deps i c c' → t' ≡ sets t (2 * c.observations) (trace_words (pc q ∷ []))
      → CarriedOut cells i (λ code σ. go_effect σ q x) (standing w t c) (standing w t' c')
  kept-shown q x h et = record {
    made = λ p code ec costs.
        let n = registers + cells in
        let v = lowered_by code (meaning p i) c.control in
        let u = max 1 (remaining code (meaning p i) c.control.window) in
        let left = left-some u (omega arith) code (rw costs live.costs) (meaning p i) c.control live.window in
        let m = go_law w c.control q v live.fits left in
        carried i (m.machine n most) m.fits m.frame p code u refl (go_effect (state_in w n) q x) refl refl et (h.exact p code costs);
  }

-- ---- rule 3 for a load, where v is the word that the address gives
pub load-carried : {w w' t t' : List ℕ} {c c' : Progress} {i : Instruction} {cells : ℕ} (r : ℕ) (a v : Tagged)
    → ((code : Code) → code.cells ≡ cells → v ≡ loaded_from code (state_in w (registers + cells)) a)
    → CarriedOut cells i (λ code σ. word_effect σ c.control.place r a v) (standing w t c) (standing w' t' c')
    → CarriedOut cells i (λ code σ. load_effect code σ c.control.place r a) (standing w t c) (standing w' t' c')
load-carried {w} {w'} {t} {t'} {c} {c'} {i} {cells} r a v same h = record {
  made = λ p code ec costs.
      let n = registers + cells in
      subst
      (λ (y : Tagged). Made n (step_with code (machine_of w c.control n) (meaning p i) (word_effect (state_in w n) c.control.place r a y))
      (standing w t c) (standing w' t' c'))
      (same code ec) (h.made p code ec costs);
}

-- ---- rule 3 for a store to a cell: it is made; l is the cell's location, and y the word that is stored
module _ {w w' t t' : List ℕ} {c c' : Progress} {i : Instruction} {cells v : ℕ} {a : Tagged} {control : Control} (r l : ℕ) (y : Tagged) where
  pub store_in_cell : Leaves w c.control i v → Moves w w' c.control control (λ M. ordinary_next M (put M.state l y) (c.control.place + 1) v)
      → a.value < cells → registers + cells ≤ limit
      → ((code : Code) → code.cells ≡ cells
      → put (state_in w (registers + cells)) l y ≡ stored_to code (state_in w (registers + cells)) a (at (state_in w (registers + cells)) r))
      → t' ≡ sets t (2 * c.observations) (observation_words (stored a.value)) → c' ≡ progress_after c control 1 a.deps
      → TriedOut cells i (λ code σ. store_effect code σ c.control.place r a) (standing w t c) (standing w' t' c')
  store_in_cell leaves m h most same et counted = record {
    tried = λ p code ec costs.
        let n = registers + cells in
        let σ = state_in w n in
        record {
          made = λ o.
              carried-shown i (m.machine n most) m.fits m.frame p code c.control.window (leaves.exact p code costs) (stored a.value)
              (stored_to code σ a (at σ r)) (suc c.control.place) (store_overfull code σ a) (same code ec) (add-one c.control.place) refl et counted;
          unmade = λ o. absurd (true≢false (sym o ∙ inside-fits w cells a code ec h));
        };
  }

-- ---- rule 3 for a store outside the image, where y is the word that is stored
pub store-tried : {w w' t t' : List ℕ} {c c' : Progress} {i : Instruction} {cells : ℕ} (r : ℕ) (a y : Tagged) → cells ≤ a.value
    → ((code : Code) → code.cells ≡ cells
    → with_outside (state_in w (registers + cells)) (remember (table_in w) a.value y)
    ≡ stored_to code (state_in w (registers + cells)) a (at (state_in w (registers + cells)) r))
    → TriedOut cells i (λ code σ. outside_effect σ c.control.place a y) (standing w t c) (standing w' t' c')
    → TriedOut cells i (λ code σ. store_effect code σ c.control.place r a) (standing w t c) (standing w' t' c')
store-tried {w} {w'} {t} {t'} {c} {c'} {i} {cells} r a y l same h = record {
  tried = λ p code ec costs.
      let n = registers + cells in
      let f = outside-fits w cells a code ec l refl in
      subst (λ (e : plain.Effect). Attempted n (step_with code (machine_of w c.control n) (meaning p i) e) (standing w t c) (standing w' t' c'))
      (λ j. record {
        state = same code ec j;
        place = suc c.control.place;
        obs = stored a.value ∷ [];
        seen = a.deps;
        overfull = sym f j;
      })
      (h.tried p code ec costs);
}

-- from the move that was tried: k is the number of the address b
pub tried-there : {w w' : List ℕ} {c : Control} {x : Option Control} {k b v : ℕ} {y : Tagged} → k ≡ b → StoreTried w w' c x k y v → StoreTried w w' c x b y v
tried-there {w} {w'} {c} {x} {v = v} {y = y} e = subst (λ (j : ℕ). StoreTried w w' c x j y v) e

module _ {w w' t : List ℕ} {c : Progress} {i : Instruction} {v : ℕ} {a y : Tagged} (leaves : Leaves w c.control i v)
    (cells : ℕ) (most : registers + cells ≤ limit) where
  -- it was made
  pub store-made : {x : Control} {t' : List ℕ} {c' : Progress} → StoreTried w w' c.control (Some x) a.value y v
      → t' ≡ sets t (2 * c.observations) (observation_words (stored a.value)) → c' ≡ progress_after c x 1 a.deps
      → TriedOut cells i (λ code σ. outside_effect σ c.control.place a y) (standing w t c) (standing w' t' c')
  store-made word et counted = record {
    tried = λ p code ec costs. record {
      made = λ o.
          let n = registers + cells in
          let m = word.made o in
          carried-shown i (m.machine n most) m.fits m.frame p code c.control.window (leaves.exact p code costs) (stored a.value)
          (with_outside (state_in w n) (remember (table_in w) a.value y)) (suc c.control.place) (overfull (table_in w) a.value) refl
          (add-one c.control.place) refl et counted;
      unmade = λ o. let none = (word.unmade o).0 in cc;
    };
  }

  -- or not
  pub store-unmade : StoreTried w w' c.control None a.value y v
      → TriedOut cells i (λ code σ. outside_effect σ c.control.place a y) (standing w t c) (standing w' t c)
  store-unmade word = record {
    tried = λ p code ec costs. record {
      made = λ o. absurd (word.made o);
      unmade = λ o. ap (λ (u : List ℕ). standing u t c) (word.unmade o).1;
    };
  }
