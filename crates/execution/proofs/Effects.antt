-- What each instruction's function promises is the rules' own effect of the instruction.
-- Assumes nothing.
use mathlib.Core.Path.{◌≡◌, refl, sym, ap, ◌∙◌, subst}
use mathlib.Core.Bool.{true, false, true≢false}
use mathlib.Core.List.{List, []}
use Prim.Native.Nat.{ℕ, ◌+◌, ◌*◌, ◌<◌, ◌≤◌, min}
use native.Mathlib.Numerals.{add-one}
use lib.ListN.{length}
use Rattle.location.specs.declared.Label.{Label}
use Rattle.location.specs.declared.LocationSet.{LocationSet}
use Rattle.location.specs.Sets.{registers, subset}
use Rattle.location.specs.SetLaws.{subset-empty}
use Rattle.rules.specs.declared.Tagged.{Tagged}
use Rattle.rules.specs.declared.Trailer.{Trailer}
use Rattle.rules.specs.Rules.Expressions.{eval}
use Rattle.rules.specs.Rules.JobFile.{locations}
use Rattle.rules.specs.Rules.Plain.{State, put, Code, end_place, chosen, branch_to, silent, load_effect, store_effect, go_effect, exec}
use Rattle.rules.specs.Rules.Plain as plain
use Rattle.rules.specs.Rules.Mispredicting.{step_with, ordinary}
use Rattle.token.specs.declared.Expression.{Expression}
use Rattle.token.specs.Meaning.{tokens_of}
use Rattle.instruction.specs.declared.Instruction.{Instruction}
use Rattle.instruction.specs.declared.Instruction.TheVariants.{Skip, Assign, Load, Store, Jump, BranchZero, AssignIf, Barrier}
use Rattle.instruction.specs.Meaning.{meaning}
use Rattle.work.specs.Words.{tagged_at}
use Rattle.work.specs.Machines.{state_in}
use Rattle.evaluation.proofs.Laws.{register-at, value_in}
use Rattle.stepping.specs.Progress.{Standing, machine_at}
use Rattle.stepping.specs.Steps.{Made, Attempted, CarriedOut, TriedOut}
use Rattle.execution.specs.Running.{Executing, Performed}

-- the state in the words, with the job's cells
abbrev state : Standing → Trailer → State
state x t = state_in x.work (registers + t.cells)

module _ {p : List ℕ} {t : Trailer} {x y : Standing} where
  -- an instruction whose effect is that of a rule, which observes nothing or whose set was tested
  pub carrying : (i : Instruction) (rule : Code → State → plain.Effect) → CarriedOut t.cells i rule x y
      → ((code : Code) → (rule code (state x t)).overfull ≡ false)
      → ((code : Code) → subset (rule code (state x t)).seen x.progress.full ≡ true)
      → ((code : Code) → end_place code ≡ t.count → rule code (state x t) ≡ exec code (state x t) x.progress.control.place (meaning p i))
      → Performed p t i x y
  unfolding ordinary
  carrying i rule e quiet known h = record {
    tried = λ code s. record {
      made = λ q o.
          subst (λ (z : plain.Effect). Made (locations t) (step_with code (machine_at x (locations t)) (meaning p i) z) x y)
          (h code s.count) (e.made p code s.cells s.costs);
      new = λ q. absurd (true≢false (sym (known code) ∙ ap (λ (z : plain.Effect). subset z.seen x.progress.full) (h code s.count) ∙ q));
      unmade = λ o. absurd (true≢false (sym o ∙ sym (ap (λ (z : plain.Effect). z.overfull) (h code s.count)) ∙ quiet code));
    };
  }

  -- one that may need one address too many
  trying : (i : Instruction) (rule : Code → State → plain.Effect) → TriedOut t.cells i rule x y
      → ((code : Code) → subset (rule code (state x t)).seen x.progress.full ≡ true)
      → ((code : Code) → end_place code ≡ t.count → rule code (state x t) ≡ exec code (state x t) x.progress.control.place (meaning p i))
      → Performed p t i x y
  unfolding ordinary
  trying i rule e known h = record {
    tried = λ code s.
        let a = subst (λ (z : plain.Effect). Attempted (locations t) (step_with code (machine_at x (locations t)) (meaning p i) z) x y)
        (h code s.count) (e.tried p code s.cells s.costs) in
        record {
          made = λ q o. a.made o;
          new = λ q. absurd (true≢false (sym (known code) ∙ ap (λ (z : plain.Effect). subset z.seen x.progress.full) (h code s.count) ∙ q));
          unmade = a.unmade;
        };
  }

  pub skip-carried : {i : Instruction} → i ≡ Skip → CarriedOut t.cells i (λ code σ. silent σ x.progress.control.place) x y
      → Performed p t i x y
  unfolding exec
  skip-carried ei e = rw ei (carrying Skip (λ code σ. silent σ x.progress.control.place) (rw ei at e) (λ code. refl)
      (λ code. subset-empty x.progress.full) (λ code el. refl))

  pub barrier_carried : {i : Instruction} → i ≡ Barrier → CarriedOut t.cells i (λ code σ. silent σ x.progress.control.place) x y
      → Performed p t i x y
  unfolding exec
  barrier_carried ei e = rw ei (carrying Barrier (λ code σ. silent σ x.progress.control.place) (rw ei at e) (λ code. refl)
      (λ code. subset-empty x.progress.full) (λ code el. refl))

  pub assign-carried : {i : Instruction} {r : ℕ} {e : Expression} {v : Tagged} → i ≡ Assign r e → v ≡ eval (tagged_at x.work) (tokens_of p e)
      → CarriedOut t.cells (Assign r e) (λ code σ. silent (put σ r v) x.progress.control.place) x y → Performed p t i x y
  unfolding exec
  assign-carried {r = r} {e = e} {v = v} ei ev d =
      let f = value_in p x.work t.cells e ev in
      rw ei (carrying (Assign r e) (λ code σ. silent (put σ r v) x.progress.control.place) d (λ code. refl)
      (λ code. subset-empty x.progress.full)
      (λ code el j. silent (put (state x t) r (f j)) x.progress.control.place))

  pub load-carried : {i : Instruction} {r : ℕ} {e : Expression} {a : Tagged} → i ≡ Load r e → a ≡ eval (tagged_at x.work) (tokens_of p e)
      → subset a.deps x.progress.full ≡ true
      → CarriedOut t.cells (Load r e) (λ code σ. load_effect code σ x.progress.control.place r a) x y → Performed p t i x y
  unfolding exec
  load-carried {r = r} {e = e} {a = a} ei ea k d =
      let f = value_in p x.work t.cells e ea in
      rw ei (carrying (Load r e) (λ code σ. load_effect code σ x.progress.control.place r a) d (λ code. refl) (λ code. k)
      (λ code el j. load_effect code (state x t) x.progress.control.place r (f j)))

  pub store-carried : {i : Instruction} {r : ℕ} {e : Expression} {a : Tagged} → i ≡ Store r e → a ≡ eval (tagged_at x.work) (tokens_of p e)
      → subset a.deps x.progress.full ≡ true
      → TriedOut t.cells (Store r e) (λ code σ. store_effect code σ x.progress.control.place r a) x y → Performed p t i x y
  unfolding exec
  store-carried {r = r} {e = e} {a = a} ei ea k d =
      let f = value_in p x.work t.cells e ea in
      rw ei (trying (Store r e) (λ code σ. store_effect code σ x.progress.control.place r a) d (λ code. k)
      (λ code el j. store_effect code (state x t) x.progress.control.place r (f j)))

  pub jump-carried : {i : Instruction} {e : Expression} {v : Tagged} {to : ℕ} → i ≡ Jump e → v ≡ eval (tagged_at x.work) (tokens_of p e)
      → subset v.deps x.progress.full ≡ true → to ≡ min v.value t.count → CarriedOut t.cells i (λ code σ. go_effect σ to v) x y
      → Performed p t i x y
  unfolding exec
  jump-carried {e = e} {v = v} {to = to} ei ev k eq d =
      let f = value_in p x.work t.cells e ev in
      rw ei
      (carrying (Jump e) (λ code σ. go_effect σ to v) (rw ei at d) (λ code. refl) (λ code. k)
      (λ code el j. go_effect (state x t) ((eq ∙ (λ u. min (f u).value (sym el u))) j) (f j)))

  pub branch-carried : {i : Instruction} {r : ℕ} {l : Label} {v : Tagged} {to : ℕ} → i ≡ BranchZero r l → r < registers → v ≡ tagged_at x.work r
      → subset v.deps x.progress.full ≡ true → to ≡ branch_to v l.0 (x.progress.control.place + 1)
      → CarriedOut t.cells (BranchZero r l) (λ code σ. go_effect σ to v) x y
      → Performed p t i x y
  unfolding exec
  branch-carried {r = r} {l = l} {v = v} {to = to} ei h ev k eq d =
      let f = register-at x.work t.cells h refl ev in
      rw ei
      (carrying (BranchZero r l) (λ code σ. go_effect σ to v) d (λ code. refl) (λ code. k)
      (λ code el j. go_effect (state x t)
      ((eq ∙ (λ u. branch_to (f u) l.0 (add-one x.progress.control.place u))) j) (f j)))

  -- an instruction that brings a location in is not carried out: its set is s
  pub not_carried : (i : Instruction) (s : LocationSet) → y ≡ x → subset s x.progress.full ≡ false
      → ((code : Code) → s ≡ (exec code (state x t) x.progress.control.place (meaning p i)).seen) → Performed p t i x y
  unfolding ordinary
  not_carried i z e k h = record {
    tried = λ code s. record {
      made = λ q o. absurd (true≢false (sym q ∙ ap (λ (u : LocationSet). subset u x.progress.full) (sym (h code)) ∙ k));
      new = λ q. e;
      unmade = λ o. e;
    };
  }

  pub assign_if_carried : {i : Instruction} {r : ℕ} {b e : Expression} {v z : Tagged} → i ≡ AssignIf r b e → r < registers
      → v ≡ eval (tagged_at x.work) (tokens_of p b) → z ≡ chosen v (eval (tagged_at x.work) (tokens_of p e)) (tagged_at x.work r)
      → CarriedOut t.cells (AssignIf r b e) (λ code σ. silent (put σ r z) x.progress.control.place) x y → Performed p t i x y
  unfolding exec
  assign_if_carried {r = r} {b = b} {e = e} {v = v} {z = z} ei h ev ey d =
      let fc = value_in p x.work t.cells b ev in
      let fe = value_in p x.work t.cells e refl in
      let fr = register-at x.work t.cells h refl refl in
      rw ei
      (carrying (AssignIf r b e) (λ code σ. silent (put σ r z) x.progress.control.place) d (λ code. refl)
      (λ code. subset-empty x.progress.full)
      (λ code el j. silent (put (state x t) r ((ey ∙ (λ k. chosen (fc k) (fe k) (fr k))) j))
      x.progress.control.place))

-- ---- room for the observation of an instruction that makes one; any code shows it
abbrev any : Code
any = record { prog = []; cells = 0; window = 0; costs = [] }

module _ {p : List ℕ} {t : Trailer} {i : Instruction} {a : Tagged} {x : Standing} (q : Executing p t i a x) where
  pub load-shown : {r : ℕ} {e : Expression} → i ≡ Load r e → 2 * (x.progress.observations + 1) ≤ length x.trace
  unfolding ordinary exec
  load-shown ei = (rw ei at q).room any

  pub store-shown : {r : ℕ} {e : Expression} → i ≡ Store r e → 2 * (x.progress.observations + 1) ≤ length x.trace
  unfolding ordinary exec
  store-shown ei = (rw ei at q).room any

  pub jump-shown : {e : Expression} → i ≡ Jump e → 2 * (x.progress.observations + 1) ≤ length x.trace
  unfolding ordinary exec
  jump-shown ei = (rw ei at q).room any

  pub branch-shown : {r : ℕ} {l : Label} → i ≡ BranchZero r l → 2 * (x.progress.observations + 1) ≤ length x.trace
  unfolding ordinary exec
  branch-shown ei = (rw ei at q).room any

-- ---- the set that an instruction observes is that of the word which it reads first
module _ (p : List ℕ) (t : Trailer) (x : Standing) (code : Code) where
  abbrev seen_by : Instruction → LocationSet
  seen_by i = (exec code (state x t) x.progress.control.place (meaning p i)).seen

  pub load-seen : {i : Instruction} {r : ℕ} {e : Expression} {a : Tagged} → i ≡ Load r e → a ≡ eval (tagged_at x.work) (tokens_of p e) → a.deps ≡ seen_by i
  unfolding exec
  load-seen {e = e} ei ea = rw ei (ap (λ (z : Tagged). z.deps) (value_in p x.work t.cells e ea))

  pub store-seen : {i : Instruction} {r : ℕ} {e : Expression} {a : Tagged} → i ≡ Store r e → a ≡ eval (tagged_at x.work) (tokens_of p e) → a.deps ≡ seen_by i
  unfolding exec
  store-seen {e = e} ei ea = rw ei (ap (λ (z : Tagged). z.deps) (value_in p x.work t.cells e ea))

  pub jump-seen : {i : Instruction} {e : Expression} {a : Tagged} → i ≡ Jump e → a ≡ eval (tagged_at x.work) (tokens_of p e) → a.deps ≡ seen_by i
  unfolding exec
  jump-seen {e = e} ei ea = rw ei (ap (λ (z : Tagged). z.deps) (value_in p x.work t.cells e ea))

  pub branch-seen : {i : Instruction} {r : ℕ} {l : Label} {a : Tagged} → i ≡ BranchZero r l → r < registers → a ≡ tagged_at x.work r → a.deps ≡ seen_by i
  unfolding exec
  branch-seen ei h ea = rw ei (ap (λ (z : Tagged). z.deps) (register-at x.work t.cells h refl ea))
