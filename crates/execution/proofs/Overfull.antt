-- Which steps need one address too many: a store alone, and only where the table outside the image is full. And what an instruction observes in
-- either run.
-- Assumes nothing.
use mathlib.Core.Path.{◌≡◌, refl, sym, ap, ◌∙◌}
use mathlib.Core.Bool.{Bool, true, false, cond}
use mathlib.Core.List.{List, [], ◌∷◌}
use Prim.Native.Nat.{ℕ, ◌+◌, ◌<◌, ◌≤◌}
use lib.Dec.{ltb}
use lib.ListN.{length}
use borrow.Author.Tests.{lt-leb}
use Rattle.location.specs.Sets.{registers}
use Rattle.rules.specs.declared.Tagged.{Tagged}
use Rattle.rules.specs.Rules.Limits.{max_entries}
use Rattle.rules.specs.Rules.Expressions.{eval}
use Rattle.rules.specs.Rules.Instructions.{Instr, skip, assign, load, store, jmp, beqz, cassign, spbarr}
use Rattle.rules.specs.Rules.Firsts.{cause_of}
use Rattle.rules.specs.Rules.Outside.{overfull}
use Rattle.rules.specs.Rules.Plain.{State, at, Code, fetch, store_overfull, exec}
use Rattle.rules.specs.Rules.Mispredicting.{Machine, Step, rolling, opening, ordinary, forward, plain_step}
use Rattle.rules.proofs.Theorems.StepLaws.{branch-or_other, forward-branch, forward-other, forward_cases, step_cases, machine_with}
use Rattle.token.specs.declared.Expression.{Expression}
use Rattle.token.specs.Meaning.{tokens_of}
use Rattle.instruction.specs.declared.Instruction.{Instruction}
use Rattle.instruction.specs.declared.Instruction.TheVariants.{Skip, Assign, Load, Store, Jump, BranchZero, AssignIf, Barrier}
use Rattle.instruction.specs.Meaning.{meaning}
use Rattle.work.specs.declared.machine.Control.{Control}
use Rattle.work.specs.Words.{tagged_at}
use Rattle.work.specs.Machines.{table_in, state_in, machine_of}
use Rattle.evaluation.proofs.Laws.{value_in, inside-fits, outside-fits}
use Rattle.execution.specs.declared.Mode.{Mode}
use Rattle.execution.specs.declared.Mode.TheVariants as modes
use Rattle.execution.specs.Next.{step_by, forward_by}

-- ---- with room in the table no step does
store-fits : (code : Code) (σ : State) (a : Tagged) → length σ.outside < max_entries → store_overfull code σ a ≡ false
unfolding store_overfull overfull
store-fits code σ a h = rw (lt-leb max_entries (length σ.outside) h) (go (ltb a.value code.cells))
  where
    go : (b : Bool) → cond b false false ≡ false
    go true = refl
    go false = refl

exec-fits : (code : Code) (σ : State) (p : ℕ) (i : Instr) → length σ.outside < max_entries → (exec code σ p i).overfull ≡ false
unfolding exec
exec-fits code σ p skip h = refl
exec-fits code σ p (assign r e) h = refl
exec-fits code σ p (load r e) h = refl
exec-fits code σ p (store r e) h = store-fits code σ (eval (at σ) e) h
exec-fits code σ p (jmp e) h = refl
exec-fits code σ p (beqz r l) h = refl
exec-fits code σ p (cassign r c e) h = refl
exec-fits code σ p spbarr h = refl

ordinary-fits : (code : Code) (M : Machine) (i : Instr) → length M.state.outside < max_entries → (ordinary code M i).overfull ≡ false
unfolding ordinary
ordinary-fits code M i h = exec-fits code M.state M.place i h

-- what a step of M needs
abbrev Fits : Machine → Step → Type 0
Fits M s = length M.state.outside < max_entries → s.overfull ≡ false

forward-fits : (code : Code) (M : Machine) (i : Instr) → Fits M (forward code M i)
unfolding opening
forward-fits code M = forward_cases code M (λ i s. Fits M s) (λ i e. ordinary-fits code M i) (λ r l h. refl)

pub step_fits : (mode : Mode) (code : Code) (M : Machine) → Fits M (step_by mode code M)
unfolding plain_step rolling
step_fits modes.Plain code M h = ordinary-fits code M (fetch code M.place) h
step_fits modes.Mispredicting code M h =
    step_cases code Fits (λ σ p n. forward-fits code (machine_with σ p [] n) (fetch code p)) (λ σ p n b bs h. refl)
    (λ σ p n b bs e. forward-fits code (machine_with σ p (b ∷ bs) n) (fetch code p)) M h

-- ---- an instruction in either run needs and observes what it needs and observes by rule 3
pub forward-overfull : (mode : Mode) (code : Code) (M : Machine) (i : Instr) → (forward_by mode code M i).overfull ≡ (ordinary code M i).overfull
unfolding opening ordinary exec
forward-overfull modes.Plain code M i = refl
forward-overfull modes.Mispredicting code M i =
    branch-or_other (λ j. (forward code M j).overfull ≡ (ordinary code M j).overfull) (λ r l. ap (λ (s : Step). s.overfull) (forward-branch code M r l))
    (λ j e. ap (λ (s : Step). s.overfull) (forward-other code M j e)) i

pub forward-seen : (mode : Mode) (code : Code) (M : Machine) (i : Instr) → (forward_by mode code M i).seen ≡ (ordinary code M i).seen
unfolding opening ordinary exec
forward-seen modes.Plain code M i = refl
forward-seen modes.Mispredicting code M i =
    branch-or_other (λ j. (forward code M j).seen ≡ (ordinary code M j).seen) (λ r l. ap (λ (s : Step). s.seen) (forward-branch code M r l))
    (λ j e. ap (λ (s : Step). s.seen) (forward-other code M j e)) i

pub forward-cause : (mode : Mode) (code : Code) (M : Machine) (i : Instr) → (forward_by mode code M i).cause ≡ cause_of i
unfolding opening ordinary
forward-cause modes.Plain code M i = refl
forward-cause modes.Mispredicting code M i =
    branch-or_other (λ j. (forward code M j).cause ≡ cause_of j) (λ r l. ap (λ (s : Step). s.cause) (forward-branch code M r l))
    (λ j e. ap (λ (s : Step). s.cause) (forward-other code M j e)) i

-- ---- any instruction but a store
pub other_needs : (i : Instruction) → ((r : ℕ) (e : Expression) → i ≡ Store r e → ⊥) → (p : List ℕ) (code : Code) (M : Machine)
    → false ≡ (ordinary code M (meaning p i)).overfull
unfolding ordinary exec
other_needs Skip n p code M = refl
other_needs (Assign r e) n p code M = refl
other_needs (Load r e) n p code M = refl
other_needs (Store r e) n p code M = absurd (n r e refl)
other_needs (Jump e) n p code M = refl
other_needs (BranchZero r l) n p code M = refl
other_needs (AssignIf r b e) n p code M = refl
other_needs Barrier n p code M = refl

-- ---- a store, whose address is a
module _ (p w : List ℕ) (cells : ℕ) (code : Code) (c : Control) (ec : code.cells ≡ cells) {i : Instruction} {r : ℕ} {e : Expression}
    (ei : i ≡ Store r e) {a : Tagged} (ea : a ≡ eval (tagged_at w) (tokens_of p e)) where
  abbrev M : Machine
  M = machine_of w c (registers + cells)

  pub store-inside_needs : a.value < cells → false ≡ (ordinary code M (meaning p i)).overfull
  unfolding ordinary exec
  store-inside_needs h =
      let f = value_in p w cells e ea in
      rw ei (sym (inside-fits w cells a code ec h) ∙ ap (store_overfull code (state_in w (registers + cells))) f)

  pub store-outside_needs : {n : ℕ} {b : Bool} → cells ≤ a.value → n ≡ a.value → b ≡ overfull (table_in w) n
      → b ≡ (ordinary code M (meaning p i)).overfull
  unfolding ordinary exec
  store-outside_needs h en eb =
      let f = value_in p w cells e ea in
      rw ei (eb ∙ sym (outside-fits w cells a code ec h en) ∙ ap (store_overfull code (state_in w (registers + cells))) f)
