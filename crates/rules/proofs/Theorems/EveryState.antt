-- What holds of a run's first state, and is kept by each instruction that is carried out, holds of every state of the run: of the one at its
-- end, and of those that the open branches saved. So a run keeps its number of locations, and remembers at most 64 addresses at a time.
-- Assumes nothing.
use Rattle.std.specs.Prelude.{◌≡◌, Bool, true, false, cond, List, [], ◌∷◌, ℕ, ◌≤◌, ltb, length}
use Rattle.std.proofs.Common.{◌∙◌, arith}
use Rattle.location.specs.Sets.{register_location, cell_location}
use Rattle.rules.specs.declared.Tagged.{Tagged}
use Rattle.rules.specs.Rules.Limits.{max_entries}
use Rattle.rules.specs.Rules.Expressions.{eval}
use Rattle.rules.specs.Rules.Instructions.{Instr, skip, assign, load, store, jmp, beqz, cassign, spbarr}
use Rattle.rules.specs.Rules.Outside.{remember, overfull}
use Rattle.rules.specs.Rules.Plain.{State, at, put, with_outside, first_state, Code, fetch, joined, stored_to, store_overfull, exec}
use Rattle.rules.specs.Rules.Mispredicting.{Branch, Machine, Step, lower, ordinary, opening, forward, rolling, step, plain_step}
use Rattle.rules.specs.Rules.Loop.{ended}
use Rattle.rules.specs.Rules.Runs.{Gathered, Job, first, blank, run, mispredicting_run, plain_run}
use Rattle.rules.proofs.Theorems.RunLaws.{run_ind}
use Rattle.rules.proofs.Theorems.StepLaws.{machine_with, forward_cases, step_cases}
use Rattle.rules.proofs.Theorems.Sizes.{own-length, exec-length}
use Rattle.rules.proofs.Theorems.Outside.{remember-most}

-- ---- any statement of a state
data Saved (P : State → Type 0) : List Branch → Type 0 where
  none : Saved P []
  more : {b : Branch} {bs : List Branch} → P b.saved → Saved P bs → Saved P (b ∷ bs)

record Everywhere (P : State → Type 0) (M : Machine) : Type 0 where
  state : P M.state
  saved : Saved P M.branches

module _ (P : State → Type 0) (code : Code)
    (kept : (σ : State) (p : ℕ) (i : Instr) → (exec code σ p i).overfull ≡ false → P σ → P (exec code σ p i).state) where
  saved-lower : (i : Instr) {bs : List Branch} → Saved P bs → Saved P (lower code i bs)
  unfolding lower
  saved-lower i none = none
  saved-lower i (more h bs) = more h bs

  -- what a step that is made keeps
  abbrev Keeps : Machine → Step → Type 0
  Keeps M s = s.overfull ≡ false → Everywhere P M → Everywhere P s.next

  keeps-ordinary : (M : Machine) (i : Instr) → Keeps M (ordinary code M i)
  unfolding ordinary
  keeps-ordinary M i o h = record { state = kept M.state M.place i o h.state; saved = saved-lower i h.saved }

  keeps-opening : (M : Machine) (r l : ℕ) → Keeps M (opening code M r l)
  unfolding opening
  keeps-opening M r l o h = record { state = h.state; saved = more h.state (saved-lower (beqz r l) h.saved) }

  keeps-forward : (M : Machine) (i : Instr) → Keeps M (forward code M i)
  keeps-forward M = forward_cases code M (λ i s. Keeps M s) (λ i e. keeps-ordinary M i) (keeps-opening M)

  keeps-rolling : (σ : State) (p n : ℕ) (b : Branch) (bs : List Branch)
      → (let M = machine_with σ p (b ∷ bs) n in Keeps M (rolling M b bs))
  unfolding rolling
  keeps-rolling σ p n b bs o h = back h.saved
    where
      back : Saved P (b ∷ bs) → Everywhere P (rolling (machine_with σ p (b ∷ bs) n) b bs).next
      back (more s t) = record { state = s; saved = t }

  keeps-step : (M : Machine) → Keeps M (step code M)
  keeps-step =
      step_cases code Keeps (λ σ p n. keeps-forward (machine_with σ p [] n) (fetch code p)) keeps-rolling
      (λ σ p n b bs e. keeps-forward (machine_with σ p (b ∷ bs) n) (fetch code p))

  keeps-plain_step : (M : Machine) → Keeps M (plain_step code M)
  unfolding plain_step
  keeps-plain_step M = keeps-ordinary M (fetch code M.place)

  keeps-run : (f : Machine → Step) → ((M : Machine) → Keeps M (f M)) → (room k : ℕ) (M : Machine) (g : Gathered)
      → Everywhere P M → Everywhere P (run f code room k M g).last
  unfolding ended
  keeps-run f keeps room =
      run_ind f code room (λ k M g r. Everywhere P M → Everywhere P r.last) (λ k M g e h. h) (λ M g e h. h)
      (λ k M g e x h. h) (λ k M g e x o h. h) (λ k M g e x p h. p (keeps M x.storable h))

-- of a job's two runs
module _ (P : State → Type 0) (job : Job) (room : ℕ)
    (kept : (σ : State) (p : ℕ) (i : Instr) → (exec job.code σ p i).overfull ≡ false → P σ → P (exec job.code σ p i).state)
    (begins : P (first_state job.init)) where
  everywhere_first : Everywhere P (first job)
  unfolding first
  everywhere_first = record { state = begins; saved = none }

  pub every_mispredicting : P (mispredicting_run job room).last.state
  unfolding mispredicting_run
  every_mispredicting =
      (keeps-run P job.code kept (step job.code) (keeps-step P job.code kept) room job.budget (first job) blank everywhere_first).state

  pub every_plain : P (plain_run job room).last.state
  unfolding plain_run
  every_plain =
      (keeps-run P job.code kept (plain_step job.code) (keeps-plain_step P job.code kept) room job.budget (first job) blank everywhere_first
      ).state

-- ---- how many locations there are
module _ (job : Job) (room : ℕ) where
  abbrev Sized : State → Type 0
  Sized σ = length σ.inside ≡ length job.init

  sized-kept : (σ : State) (p : ℕ) (i : Instr) → (exec job.code σ p i).overfull ≡ false → Sized σ → Sized (exec job.code σ p i).state
  sized-kept σ p i o h = exec-length job.code σ p i ∙ h

  sized-first : Sized (first_state job.init)
  unfolding first_state
  sized-first = own-length 0 job.init

  -- a run ends with the locations it began with
  pub mispredicting_length : length (mispredicting_run job room).last.state.inside ≡ length job.init
  mispredicting_length = every_mispredicting Sized job room sized-kept sized-first

  pub plain-length : length (plain_run job room).last.state.inside ≡ length job.init
  plain-length = every_plain Sized job room sized-kept sized-first

-- ---- how many addresses are remembered
abbrev Few : State → Type 0
Few σ = length σ.outside ≤ max_entries

few-stored : (code : Code) (σ : State) (a t : Tagged) → store_overfull code σ a ≡ false → Few σ → Few (stored_to code σ a t)
unfolding store_overfull stored_to put
few-stored code σ a t = go (ltb a.value code.cells)
  where
    go : (b : Bool) → cond b false (overfull σ.outside a.value) ≡ false → Few σ
        → Few (cond b (put σ (cell_location a.value) (joined t a.deps)) (with_outside σ (remember σ.outside a.value (joined t a.deps))))
    go true o h = h
    go false o h = remember-most σ.outside a.value (joined t a.deps) h o

few-kept : (code : Code) (σ : State) (p : ℕ) (i : Instr) → (exec code σ p i).overfull ≡ false → Few σ → Few (exec code σ p i).state
unfolding exec put
few-kept code σ p skip o h = h
few-kept code σ p (assign r e) o h = h
few-kept code σ p (load r e) o h = h
few-kept code σ p (store r e) o h = few-stored code σ (eval (at σ) e) (at σ (register_location r)) o h
few-kept code σ p (jmp e) o h = h
few-kept code σ p (beqz r l) o h = h
few-kept code σ p (cassign r c e) o h = h
few-kept code σ p spbarr o h = h

few-first : (vs : List ℕ) → Few (first_state vs)
unfolding first_state
few-first vs = omega arith

-- "for up to 64 addresses", wherever the run ends; so that the 129 words of the end area hold the whole table
pub mispredicting_few : (job : Job) (room : ℕ) → length (mispredicting_run job room).last.state.outside ≤ max_entries
mispredicting_few job room = every_mispredicting Few job room (few-kept job.code) (few-first job.init)

pub plain-few : (job : Job) (room : ℕ) → length (plain_run job room).last.state.outside ≤ max_entries
plain-few job room = every_plain Few job room (few-kept job.code) (few-first job.init)
