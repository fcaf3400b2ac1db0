-- The bounds of a wrong path: "At most w + 1 branches are open, and a live wrong path holds at most w changes of a place." The changes
-- that are live are an undo log, which takes the state back to each open branch's saved one in turn.
-- Assumes nothing.
use Rattle.std.specs.Prelude.{◌≡◌, refl, Bool, true, false, cond, List, [], ◌∷◌, ◌++◌, ◌≢◌, ℕ, suc, ◌+◌, ◌-◌, ◌≤◌, ltb, length, get_or}
use Rattle.std.proofs.Common.{ap, arith, set-set}
use Rattle.std.proofs.Math.ListN.{length-append}
use Rattle.std.proofs.lemmas.List.{set-get_or}
use Rattle.location.specs.Sets.{register_location, cell_location, empty}
use Rattle.rules.specs.declared.Tagged.{Tagged}
use Rattle.rules.specs.Rules.Expressions.{tagged, eval}
use Rattle.rules.specs.Rules.Instructions.{Instr, skip, assign, load, store, jmp, beqz, cassign, spbarr, kind, is_barrier, other, branch_view}
use Rattle.rules.specs.Rules.Plain.{State, at, put, with_outside, Code, fetch, joined, stored_to, branch_to, exec}
use Rattle.rules.specs.Rules.Mispredicting.{Branch, Machine, Step, remaining, lowered, lower, ordinary, new_window, opening, forward, rolling, step}
use Rattle.rules.specs.Rules.Outside.{recall, remember, remembers}
use Rattle.rules.specs.Rules.Changes.{Change, replaced, added, change_of, position, table_change, changes, revert, restore}
use Rattle.rules.specs.Rules.Changes.{UndoLog, size, with_changes, dropped, log_forward, log_by, log_after, Live, live_first, live_next}
use Rattle.rules.specs.Rules.Loop.{ended}
use Rattle.rules.specs.Rules.Runs.{run, Job, first, blank}
use Rattle.rules.proofs.Theorems.RunLaws.{run_ind}
use Rattle.rules.proofs.Theorems.Outside.{replaced-back, added-back}
use Rattle.rules.proofs.Theorems.StepLaws.{machine_with, branch_with, forward_cases, forward-back, expired_false, step_cases}
use Rattle.rules.specs.Theorems.Bounds.{PositiveCosts}

-- ---- undoing
pub put_back : (σ : State) (l : ℕ) (t : Tagged) → put (put σ l t) l (at σ l) ≡ σ
unfolding put at
put_back σ l t = ap (λ (ts : List Tagged). record { inside = ts; outside = σ.outside }) (simp (set-set, set-get_or))

-- a store outside the image
table-back : (σ : State) (a : ℕ) (t : Tagged) → revert (table_change σ.outside a) (with_outside σ (remember σ.outside a t)) ≡ σ
unfolding table_change
table-back σ a t = go (remembers σ.outside a) refl
  where
    go : (b : Bool) → remembers σ.outside a ≡ b
        → revert (cond b (replaced (position σ.outside a) (recall (tagged 0 empty) σ.outside a)) (added (length σ.outside)))
        (with_outside σ (remember σ.outside a t))
        ≡ σ
    go true h = ap (with_outside σ) (replaced-back σ.outside a t h)
    go false h = ap (with_outside σ) (added-back σ.outside a t h)

-- an instruction that is undone leaves the state as it was
pub restore-exec : (code : Code) (σ : State) (p : ℕ) (i : Instr) (us : List Change)
    → restore (changes code σ i ++ us) (exec code σ p i).state ≡ restore us σ
unfolding exec changes stored_to
restore-exec code σ p skip us = refl
restore-exec code σ p (assign r e) us = rw put_back
restore-exec code σ p (load r e) us = rw put_back
restore-exec code σ p (store r e) us = go (ltb (eval (at σ) e).value code.cells)
  where
    go : (x : Bool) → (let a = eval (at σ) e in let l = cell_location a.value in let t = joined (at σ (register_location r)) a.deps in
        restore (cond x (change_of σ l) (table_change σ.outside a.value) ∷ us)
        (cond x (put σ l t) (with_outside σ (remember σ.outside a.value t)))
        ≡ restore us σ)
    go true = rw put_back
    go false =
        let a = eval (at σ) e in ap (restore us) (table-back σ a.value (joined (at σ (register_location r)) a.deps))
restore-exec code σ p (jmp e) us = refl
restore-exec code σ p (beqz r l) us = refl
restore-exec code σ p (cassign r c e) us = rw put_back
restore-exec code σ p spbarr us = refl

-- and makes one change at most
pub changes-one : (code : Code) (σ : State) (i : Instr) → length (changes code σ i) ≤ 1
unfolding changes
changes-one code σ skip = omega arith
changes-one code σ (assign r e) = omega arith
changes-one code σ (load r e) = omega arith
changes-one code σ (store r e) = omega arith
changes-one code σ (jmp e) = omega arith
changes-one code σ (beqz r l) = omega arith
changes-one code σ (cassign r c e) = omega arith
changes-one code σ spbarr = omega arith

-- ---- windows
-- so a window that is lowered falls
pub remaining-less : (code : Code) → PositiveCosts code.costs → (i : Instr) (v : ℕ) → v ≢ 0 → remaining code i v + 1 ≤ v
unfolding remaining
remaining-less code h i v ne = go (is_barrier i)
  where
    go : (x : Bool) → cond x 0 (v - get_or code.costs (kind i) 0) + 1 ≤ v
    go true = omega (arith, ne)
    go false = omega (arith, ne, h.each i)

-- ---- the invariant
-- The log takes the state back to each open branch's saved one, in turn. The window that is left, the changes and the branches below
-- are at most w together.
pub data Restores (w : ℕ) : State → UndoLog → List Branch → Type 0 where
  none : {σ : State} → Restores w σ [] []
  more : {σ : State} {b : Branch} {bs : List Branch} (u : List Change) (us : UndoLog) → restore u σ ≡ b.saved
      → b.window + (size (u ∷ us) + length bs) ≤ w → Restores w b.saved us bs → Restores w σ (u ∷ us) (b ∷ bs)

pub restores-bound : {w : ℕ} {σ : State} {us : UndoLog} {bs : List Branch} → Restores w σ us bs → size us + length bs ≤ w + 1
unfolding size
restores-bound none = omega arith
restores-bound (more u us e h r) = omega arith

pub restores-changes : {w : ℕ} {σ : State} {us : UndoLog} {bs : List Branch} → Restores w σ us bs → size us ≤ w
unfolding size
restores-changes none = omega arith
restores-changes (more u us e h r) = omega arith

-- a branch opened at the state itself
restores_open : {w : ℕ} {σ : State} {us : UndoLog} {bs : List Branch} (i t v : ℕ) → v + (size us + length bs) ≤ w
    → Restores w σ us bs → Restores w σ ([] ∷ us) (branch_with i σ t v ∷ bs)
unfolding size
restores_open {w} {σ} {us} {bs} i t v h r = more {σ = σ} {b = branch_with i σ t v} {bs = bs} [] us refl (omega arith) r

-- what a step s of M keeps, and the same of an instruction i that is carried out
abbrev pub Keeps : Code → Machine → Step → Type 0
Keeps code M s =
    (us : UndoLog) → Restores code.window M.state us M.branches
    → Restores code.window s.next.state (log_by s.back code M us) s.next.branches

abbrev KeepsOn : Code → Machine → Instr → Step → Type 0
KeepsOn code M i s =
    (us : UndoLog) → Restores code.window M.state us M.branches
    → Restores code.window s.next.state (log_forward code M.state i us) s.next.branches

module _ (code : Code) (positive : PositiveCosts code.costs) (σ : State) (p n : ℕ) where
  -- ---- with nothing open
  empty-ordinary : (i : Instr) → branch_view i ≡ other → (let M = machine_with σ p [] n in KeepsOn code M i (ordinary code M i))
  unfolding ordinary lower log_forward with_changes
  empty-ordinary i e us none = rw (log_forward, e) none

  empty-opening : (r l : ℕ) → (let M = machine_with σ p [] n in KeepsOn code M (beqz r l) (opening code M r l))
  unfolding opening lower new_window log_forward size
  empty-opening r l us none = restores_open n (branch_to (at σ (register_location r)) l (suc p)) code.window (omega arith) none

  -- ---- with branch b on top, whose window is left
  module _ (b : Branch) (bs : List Branch) (ne : b.window ≢ 0) where
    open_ordinary : (i : Instr) → branch_view i ≡ other
        → (let M = machine_with σ p (b ∷ bs) n in KeepsOn code M i (ordinary code M i))
    unfolding ordinary lower log_forward with_changes size
    open_ordinary i e us (more u vs s h r) =
        let one = changes-one code σ i in
        let less = remaining-less code positive i b.window ne in
        rw (log_forward, e) (more {σ = (exec code σ p i).state} {b = lowered code i b} {bs = bs} (changes code σ i ++ u) vs
        (rw (restore-exec code σ p i u) s) (simp length-append (omega arith)) r)

    open_opening : (r l : ℕ) → (let M = machine_with σ p (b ∷ bs) n in KeepsOn code M (beqz r l) (opening code M r l))
    unfolding opening lower new_window log_forward size
    open_opening r l us (more u vs s h q) =
        let less = remaining-less code positive (beqz r l) b.window ne in
        restores_open n (branch_to (at σ (register_location r)) l (suc p)) (remaining code (beqz r l) b.window) (omega arith)
        (more {σ = σ} {b = lowered code (beqz r l) b} {bs = bs} u vs s (omega arith) q)

  keeps-empty : (i : Instr) → (let M = machine_with σ p [] n in KeepsOn code M i (forward code M i))
  keeps-empty = let M = machine_with σ p [] n in forward_cases code M (KeepsOn code M) empty-ordinary empty-opening

  keeps_open : (b : Branch) (bs : List Branch) → b.window ≢ 0 → (i : Instr)
      → (let M = machine_with σ p (b ∷ bs) n in KeepsOn code M i (forward code M i))
  keeps_open b bs ne =
      let M = machine_with σ p (b ∷ bs) n in forward_cases code M (KeepsOn code M) (open_ordinary b bs ne) (open_opening b bs ne)

  keeps-rolling : (b : Branch) (bs : List Branch) → (let M = machine_with σ p (b ∷ bs) n in Keeps code M (rolling M b bs))
  unfolding rolling log_by dropped
  keeps-rolling b bs us (more u vs s h r) = r

-- every step keeps the log right and bounded
pub keeps-step : (code : Code) → PositiveCosts code.costs → (M : Machine) → Keeps code M (step code M)
unfolding log_by
keeps-step code positive =
    step_cases code (Keeps code)
    (λ σ p n. rw forward-back (keeps-empty code positive σ p n (fetch code p)))
    (λ σ p n b bs. keeps-rolling code positive σ p n b bs)
    (λ σ p n b bs e. rw forward-back (keeps_open code positive σ p n b bs (expired_false code p b e).0 (fetch code p)))

-- ---- the theorem
-- "At most w + 1 branches are open, and a live wrong path holds at most w changes of a place.": of a machine and its undo log. One
-- added to the other they are at most w + 1, so that both fit one area.
pub record Bounded (w : ℕ) (M : Machine) (us : UndoLog) : Type 0 where
  pub restores : Restores w M.state us M.branches
  pub few-branches : length M.branches ≤ w + 1
  pub few-changes : size us ≤ w
  pub together : size us + length M.branches ≤ w + 1

bounded : {w : ℕ} {M : Machine} {us : UndoLog} → Restores w M.state us M.branches → Bounded w M us
bounded r =
    let t = restores-bound r in
    record { restores = r; few-branches = omega arith; few-changes = restores-changes r; together = t }

module _ (job : Job) (positive : PositiveCosts job.code.costs) where
  live_restores : {M : Machine} {us : UndoLog} → Live job M us → Restores job.code.window M.state us M.branches
  unfolding first log_after
  live_restores live_first = none
  live_restores (live_next {M = M} {us = us} e l) = keeps-step job.code positive M us (live_restores l)

  -- "a live wrong path holds at most w changes of a place": of the changes that are live
  pub live_bounded : {M : Machine} {us : UndoLog} → Live job M us → Bounded job.code.window M us
  live_bounded l = bounded (live_restores l)

-- "Execution starts at label 0", and each step goes to the next: a run stops at one of the machines that it comes to, whatever the budget and
-- the room are.
pub last_live : (job : Job) (room budget : ℕ) → (us : UndoLog) × Live job (run (step job.code) job.code room budget (first job) blank).last us
unfolding ended
last_live job room budget =
    run_ind (step job.code) job.code room
    (λ k M g r. (us : UndoLog) → Live job M us → (vs : UndoLog) × Live job r.last vs)
    (λ k M g e us x. (us, x)) (λ M g e us x. (us, x)) (λ k M g e h us x. (us, x)) (λ k M g e h o us x. (us, x))
    (λ k M g e h p us x. p (log_after job.code M us) (live_next e x)) budget (first job) blank [] live_first
