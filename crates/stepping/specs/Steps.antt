-- What the functions that make a step promise.
-- Assumes nothing.
use Rattle.std.specs.Prelude.{◌≡◌, true, false, List, [], ◌∷◌, ◌++◌, ℕ, suc, ◌+◌, ◌*◌, ◌^◌, ◌<◌, ◌≤◌, max, length, drop}
use Rattle.std.proofs.lemmas.List.Edits.{sets}
use Rattle.location.specs.declared.LocationSet.{LocationSet}
use Rattle.location.specs.Sets.{registers, limit}
use Rattle.rules.specs.declared.Tagged.{Tagged}
use Rattle.rules.specs.Rules.Limits.{max_budget}
use Rattle.rules.specs.Rules.Instructions.{Instr, Observation, loaded, stored}
use Rattle.rules.specs.Rules.Firsts.{ObservedSet}
use Rattle.rules.specs.Rules.Outside.{remember, overfull}
use Rattle.rules.specs.Rules.Plain.{State, Code}
use Rattle.rules.specs.Rules.Plain as plain
use Rattle.rules.specs.Rules.Mispredicting.{Branch, Step, remaining, rolling, opening, step_with}
use Rattle.rules.specs.Rules.Runs.{observed_set, note}
use Rattle.rules.specs.Rules.Calls.{trace_words}
use Rattle.work.specs.declared.machine.Control.{Control}
use Rattle.work.specs.Layout.{reports, labels}
use Rattle.work.specs.Words.{window_at, costs_in}
use Rattle.work.specs.Machines.{state_in, Fit, Left}
use Rattle.work.specs.Moves.{gone}
use Rattle.instruction.specs.declared.Instruction.{Instruction}
use Rattle.instruction.specs.Meaning.{meaning}
use Rattle.stepping.specs.declared.Progress.{Progress}
use Rattle.stepping.specs.Progress.{Standing, machine_at, gathered_of, progress_after}
use Rattle.rules.specs.Theorems.Bounds.{PositiveCosts}

-- The counts stay far below 2 ^ 64: no more branches were opened than steps made, no more than two observations a step, and the trace area has
-- the observations made.
pub record Counted (x : Standing) : Type 0 where
  pub opened : x.progress.control.opened ≤ x.progress.steps
  pub steps : x.progress.steps ≤ max_budget
  pub room : 2 * x.progress.observations ≤ length x.trace
  pub observed : x.progress.observations ≤ 2 * x.progress.steps

-- From x the run has come to y by the rules' step s of a machine with n locations.
pub record Made (n : ℕ) (s : Step) (x y : Standing) : Type 0 where
  pub machine : machine_at y n ≡ s.next
  pub fits : Fit y.work y.progress.control
  pub frame : drop reports y.work ≡ drop reports x.work
  pub trace : y.trace ≡ sets x.trace (2 * x.progress.observations) (trace_words s.obs)
  pub observations : y.progress.observations ≡ x.progress.observations + length s.obs
  pub gathered : (os : List Observation) (xs : List ObservedSet)
      → (let g = gathered_of os xs x.progress in
      gathered_of (os ++ s.obs) (xs ++ (observed_set (machine_at x n) s g ∷ [])) y.progress ≡ note (machine_at x n) s g)
  pub opened : y.progress.control.opened ≤ x.progress.control.opened + 1
  pub steps : y.progress.steps ≡ x.progress.steps + 1

-- The step s was tried: the run has come to y by it, unless it needs one address too many outside the image; then nothing was done.
pub record Attempted (n : ℕ) (s : Step) (x y : Standing) : Type 0 where
  pub made : s.overfull ≡ false → Made n s x y
  pub unmade : s.overfull ≡ true → y ≡ x

-- rule 1 on the top branch
pub record RolledBackTo (x y : Standing) : Type 0 where
  pub made : (n : ℕ) (b : Branch) (bs : List Branch) → n ≤ limit → (machine_at x n).branches ≡ b ∷ bs
      → Made n (rolling (machine_at x n) b bs) x y

-- rule 2 for beqz r, l, in a program whose window is so much
pub record OpenedTo (r l window : ℕ) (x y : Standing) : Type 0 where
  pub made : (n : ℕ) (code : Code) → registers ≤ n → n ≤ limit → code.window ≡ window → code.costs ≡ costs_in (drop labels x.work)
      → Made n (opening code (machine_at x n) r l) x y

-- Rule 3 for instruction i, with the effect that a rule gives in the state of so many cells.
pub record CarriedOut (cells : ℕ) (i : Instruction) (rule : Code → State → plain.Effect) (x y : Standing) : Type 0 where
  pub made : (p : List ℕ) (code : Code) → code.cells ≡ cells → code.costs ≡ costs_in (drop labels x.work)
      → Made (registers + cells)
      (step_with code (machine_at x (registers + cells)) (meaning p i) (rule code (state_in x.work (registers + cells)))) x y

-- The same for an instruction that may need one address too many.
pub record TriedOut (cells : ℕ) (i : Instruction) (rule : Code → State → plain.Effect) (x y : Standing) : Type 0 where
  pub tried : (p : List ℕ) (code : Code) → code.cells ≡ cells → code.costs ≡ costs_in (drop labels x.work)
      → Attempted (registers + cells)
      (step_with code (machine_at x (registers + cells)) (meaning p i) (rule code (state_in x.work (registers + cells)))) x y

-- the effect of a load of register r from the address a, where v is the word that it gives
abbrev pub word_effect : State → ℕ → ℕ → Tagged → Tagged → plain.Effect
word_effect σ p r a v = record {
  state = plain.put σ r v;
  place = suc p;
  obs = loaded a.value ∷ [];
  seen = a.deps;
  overfull = false;
}

-- the effect of a store of v at the address a outside the image
abbrev pub outside_effect : State → ℕ → Tagged → Tagged → plain.Effect
outside_effect σ p a v = record {
  state = plain.with_outside σ (remember σ.outside a.value v);
  place = suc p;
  obs = stored a.value ∷ [];
  seen = a.deps;
  overfull = overfull σ.outside a.value;
}

-- what an instruction leaves of the top's window; u with nothing open
abbrev pub left_by : ℕ → Code → Instr → Control → ℕ
left_by u code i c = window_at c.depth u (remaining code i c.window)

-- the same where the window is lowered with nothing open too, but not below 1
abbrev pub lowered_by : Code → Instr → Control → ℕ
lowered_by code i c = left_by (max 1 (remaining code i c.window)) code i c

-- The progress after an instruction that changes no location and goes to a place, with so many observations, which rest on s, by the window
-- costs of the words w.
pub record StateKept (w : List ℕ) (place observations : ℕ) (s : LocationSet) (i : Instruction) (c c' : Progress) : Type 0 where
  pub exact : (p : List ℕ) (code : Code) → code.costs ≡ costs_in (drop labels w)
      → c' ≡ progress_after c (gone c.control place (lowered_by code (meaning p i) c.control)) observations s

-- The words fit, each kind of instruction costs 1 at least, and there is some window left: rule 1 is not for the window's sake the next.
pub record Unexpired (w : List ℕ) (c : Progress) : Type 0 where
  pub fits : Fit w c.control
  pub costs : PositiveCosts (costs_in (drop labels w))
  pub window : 0 < c.control.window

-- What a step of rule 2 or 3 asks that makes so many observations: some window left, room for them, and counts that do not wrap.
pub record Steppable (observations : ℕ) (x : Standing) : Type 0 where
  pub unexpired : Unexpired x.work x.progress
  pub room : 2 * (x.progress.observations + observations) ≤ length x.trace
  pub place : x.progress.control.place + 1 < 2 ^ 64
  pub steps : x.progress.steps + 1 < 2 ^ 64

-- What instruction i leaves of a window, by the window costs of the words w.
pub record Charged (w : List ℕ) (window : ℕ) (i : Instruction) (v : ℕ) : Type 0 where
  pub exact : (p : List ℕ) (code : Code) → code.costs ≡ costs_in (drop labels w) → v ≡ remaining code (meaning p i) window

-- What it leaves of the top's; with nothing open the window is kept. Where each kind costs 1 at least, it is less than there was with a branch
-- open, and with none not 0, if there was any.
pub record Leaves (w : List ℕ) (c : Control) (i : Instruction) (v : ℕ) : Type 0 where
  pub exact : (p : List ℕ) (code : Code) → code.costs ≡ costs_in (drop labels w) → v ≡ left_by c.window code (meaning p i) c
  pub left : PositiveCosts (costs_in (drop labels w)) → 0 < c.window → Left c v

-- What it leaves of the top's, where the window is lowered with nothing open too, but not below 1.
pub record Lowers (w : List ℕ) (c : Control) (i : Instruction) (v : ℕ) : Type 0 where
  pub exact : (p : List ℕ) (code : Code) → code.costs ≡ costs_in (drop labels w) → v ≡ lowered_by code (meaning p i) c
