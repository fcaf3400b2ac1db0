-- The ways a step goes, as laws by cases: rollback, opening or ordinary. Proofs about steps cite these and do not open the step.
-- Assumes nothing.
use Rattle.std.specs.Prelude.{◌≡◌, refl, Bool, true, false, cond, ◌||◌, List, [], ◌∷◌, ◌≢◌, ℕ, ◌<◌, eqb, leb}
use Rattle.std.proofs.Common.{true≢false, leb-false}
use Rattle.std.proofs.lemmas.Bool.{eqb-false}
use Rattle.rules.specs.Rules.Instructions.{Instr, skip, assign, load, store, jmp, beqz, cassign, spbarr, other, branch_view}
use Rattle.rules.specs.Rules.Plain.{State, Code, end_place, fetch}
use Rattle.rules.specs.Rules.Mispredicting.{Branch, Machine, Step, ordinary, opening, forward, rolling, expired, step_on, step}

-- a machine and a branch by their fields
abbrev pub machine_with : State → ℕ → List Branch → ℕ → Machine
machine_with σ p bs n = record { state = σ; place = p; branches = bs; opened = n }

abbrev pub branch_with : ℕ → State → ℕ → ℕ → Branch
branch_with i σ p v = record { id = i; saved = σ; target = p; window = v }

-- an instruction is a branch, or another
pub branch-or_other : (P : Instr → Type 0) → ((r l : ℕ) → P (beqz r l)) → ((i : Instr) → branch_view i ≡ other → P i) → (i : Instr) → P i
branch-or_other P b o skip = o skip refl
branch-or_other P b o (assign r e) = o (assign r e) refl
branch-or_other P b o (load r e) = o (load r e) refl
branch-or_other P b o (store r e) = o (store r e) refl
branch-or_other P b o (jmp e) = o (jmp e) refl
branch-or_other P b o (beqz r l) = b r l
branch-or_other P b o (cassign r c e) = o (cassign r c e) refl
branch-or_other P b o spbarr = o spbarr refl

-- what is carried out is rule 2 for a branch, else rule 3
pub forward-branch : (code : Code) (M : Machine) (r l : ℕ) → forward code M (beqz r l) ≡ opening code M r l
unfolding forward
forward-branch code M r l = refl

pub forward-other : (code : Code) (M : Machine) (i : Instr) → branch_view i ≡ other → forward code M i ≡ ordinary code M i
unfolding forward
forward-other code M i e = rw (forward, e)

pub forward_cases : (code : Code) (M : Machine) (P : Instr → Step → Type 0)
    → ((i : Instr) → branch_view i ≡ other → P i (ordinary code M i))
    → ((r l : ℕ) → P (beqz r l) (opening code M r l)) → (i : Instr) → P i (forward code M i)
forward_cases code M P o b =
    branch-or_other (λ i. P i (forward code M i)) (λ r l. rw (forward-branch code M r l) (b r l))
    (λ i e. rw (forward-other code M i e) (o i e))

-- the same for two machines side by side
pub forward-both : (code : Code) (M N : Machine) (P : Step → Step → Type 0)
    → ((i : Instr) → P (ordinary code M i) (ordinary code N i))
    → ((r l : ℕ) → P (opening code M r l) (opening code N r l)) → (i : Instr) → P (forward code M i) (forward code N i)
forward-both code M N P o b =
    branch-or_other (λ i. P (forward code M i) (forward code N i)) (λ r l. rw (forward-branch code M r l, forward-branch code N r l) (b r l))
    (λ i e. rw (forward-other code M i e, forward-other code N i e) (o i))

-- and is no rollback
pub forward-back : (code : Code) (M : Machine) (i : Instr) → (forward code M i).back ≡ 0
unfolding ordinary opening
forward-back code M = forward_cases code M (λ i s. s.back ≡ 0) (λ i e. refl) (λ r l. refl)

-- a branch that has not expired has some window left, and the place is not END
pub expired_false : (code : Code) (p : ℕ) (b : Branch) → expired code p b ≡ false → (b.window ≢ 0) × (p < end_place code)
unfolding expired
expired_false code p b = go (eqb b.window 0) (leb (end_place code) p) refl refl
  where
    go : (x y : Bool) → eqb b.window 0 ≡ x → leb (end_place code) p ≡ y → (x || y) ≡ false → (b.window ≢ 0) × (p < end_place code)
    go true y e f h = absurd (true≢false h)
    go false true e f h = absurd (true≢false h)
    go false false e f h = (eqb-false b.window 0 e, leb-false (end_place code) p f)

-- with nothing open a step carries the instruction out
pub step-empty : (code : Code) (σ : State) (p n : ℕ)
    → step code (machine_with σ p [] n) ≡ forward code (machine_with σ p [] n) (fetch code p)
unfolding step step_on
step-empty code σ p n = refl

-- with a branch open it rolls back where that has expired, else it carries the instruction out
pub step_open : (code : Code) (σ : State) (p n : ℕ) (b : Branch) (bs : List Branch) (P : Step → Type 0)
    → (let M = machine_with σ p (b ∷ bs) n in
    P (rolling M b bs) → (expired code p b ≡ false → P (forward code M (fetch code p))) → P (step code M))
unfolding step step_on
step_open code σ p n b bs P roll on = go (expired code p b) refl
  where
    go : (x : Bool) → expired code p b ≡ x
        → (let M = machine_with σ p (b ∷ bs) n in P (cond x (rolling M b bs) (forward code M (fetch code p))))
    go true e = roll
    go false e = on e

-- both together, for any machine
pub step_cases : (code : Code) (P : Machine → Step → Type 0)
    → ((σ : State) (p n : ℕ) → (let M = machine_with σ p [] n in P M (forward code M (fetch code p))))
    → ((σ : State) (p n : ℕ) (b : Branch) (bs : List Branch) → (let M = machine_with σ p (b ∷ bs) n in P M (rolling M b bs)))
    → ((σ : State) (p n : ℕ) (b : Branch) (bs : List Branch) → expired code p b ≡ false
    → (let M = machine_with σ p (b ∷ bs) n in P M (forward code M (fetch code p))))
    → (M : Machine) → P M (step code M)
step_cases code P none roll on M = go M.branches
  where
    go : (bs : List Branch) → (let N = machine_with M.state M.place bs M.opened in P N (step code N))
    go [] = rw step-empty (none M.state M.place M.opened)
    go (b ∷ bs) =
        step_open code M.state M.place M.opened b bs (λ s. P (machine_with M.state M.place (b ∷ bs) M.opened) s)
        (roll M.state M.place M.opened b bs) (on M.state M.place M.opened b bs)
