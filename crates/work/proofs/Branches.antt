-- The open branches in the words after a change is logged and after a branch is pushed.
-- Assumes nothing.
use mathlib.Core.Path.{◌≡◌, refl, sym, ap, ◌∙◌, subst}
use mathlib.Core.List.{List, [], ◌∷◌}
use Prim.Native.Nat.{ℕ, zero, suc, ◌+◌, ◌-◌, ◌*◌, ◌<◌, ◌≤◌, min}
use native.Mathlib.Nat.{le_refl}
use native.Mathlib.Omega.{arith}
use lib.Dec.{lit<}
use lib.ListN.{length}
use Rattle.location.specs.Sets.{limit}
use Rattle.rules.specs.Rules.Limits.{max_entries}
use Rattle.rules.specs.Rules.Calls.{working_words}
use Rattle.rules.specs.Rules.Plain.{State}
use Rattle.rules.specs.Rules.Changes.{Change, restore}
use Rattle.work.specs.declared.OpenBranch.{OpenBranch}
use Rattle.work.specs.Layout.{entry_count, change_base, branch_base, first_branch}
use Rattle.work.specs.Words.{count_in, number_at, change_at, branch_at, branch_stored}
use Rattle.work.specs.Machines.{state_in, last_changes, saved_at, branches_of, max_window, WindowBound, LogBound}
use Rattle.work.specs.Moves.{lower_to}
use Rattle.work.proofs.Ranges.{same-before, same_after, first-same, change_same, branch_same, branch-stored}
use Rattle.work.proofs.States.{state-past, log_agree, changes_agree, Logged, logged_saved}

-- ---- branches with the same entries, and with the same changes below the log's length, are the same
pub branches_agree : (e e' : ℕ → OpenBranch) (g g' : ℕ → Change) (σ : State) (v k d : ℕ) → ((j : ℕ) → j < d → e j ≡ e' j)
    → ((j : ℕ) → j < k → g j ≡ g' j) → WindowBound e v d k → branches_of e g σ v k d ≡ branches_of e' g' σ v k d
branches_agree e e' g g' σ v k zero he hg h = refl
branches_agree e e' g g' σ v k (suc d) he hg h =
    let m = (e d).mark in
    let l = h.0 in
    let E = he d (le_refl (suc d)) in
    let C = changes_agree g g' k (k - m) hg in
    let S : saved_at g σ k m ≡ saved_at g' σ k (e' d).mark = ap (λ (us : List Change). restore us σ) C ∙ ap (λ (b : OpenBranch). saved_at g' σ k b.mark) E in
    let R = branches_agree e e' g g' (saved_at g σ k m) (e d).outer m d (λ j i. he j (omega arith)) (λ j i. hg j (omega arith)) h.2 in
    let R' = R ∙ (λ t. branches_of e' g' (S t) (E t).outer (E t).mark d) in
    λ t. record { id = (E t).id; saved = S t; target = (E t).target; window = v } ∷ R' t

pub bound_agree : (e e' : ℕ → OpenBranch) (v k d : ℕ) → ((j : ℕ) → j < d → e j ≡ e' j) → WindowBound e v d k → WindowBound e' v d k
bound_agree e e' v k zero he h = h
bound_agree e e' v k (suc d) he h =
    let E = he d (le_refl (suc d)) in
    let h' = subst (λ (b : OpenBranch). (b.mark ≤ k) × (k + d + v ≤ max_window) × WindowBound e b.outer d b.mark) E h in
    (h'.0, h'.1, bound_agree e e' (e' d).outer (e' d).mark d (λ j i. he j (omega arith)) h'.2)

-- ---- with v left of the top's window
pub top_left : (e : ℕ → OpenBranch) (g : ℕ → Change) (σ : State) (u v k d : ℕ) → branches_of e g σ v k d ≡ lower_to v (branches_of e g σ u k d)
top_left e g σ u v k zero = refl
top_left e g σ u v k (suc d) = refl

pub bound-left : (e : ℕ → OpenBranch) (u v d k : ℕ) → (0 < d → v < u) → (d ≡ 0 → 0 < v) → WindowBound e u d k → WindowBound e v d k
bound-left e u v zero k l s h = (h.0, s refl)
bound-left e u v (suc d) k l s h =
    let a = h.1 in
    let b = l (omega arith) in
    (h.0, omega arith, h.2)

-- ---- words w₁ that have logged change number k, where the top is branch number d and has the window u
module _ (w w₁ : List ℕ) (k d u : ℕ) (entries : (j : ℕ) → j ≤ d → branch_at w₁ j ≡ branch_at w j) (h : WindowBound (branch_at w) u (suc d) k) where
  below : (j : ℕ) → j < d → branch_at w j ≡ branch_at w₁ j
  below j i = sym (entries j (omega arith))

  top : branch_at w₁ d ≡ branch_at w d
  top = entries d (le_refl d)

  -- what the top saved
  abbrev m : ℕ
  m = (branch_at w d).mark

  module _ (n : ℕ) (l : Logged w w₁ n k) where
    abbrev σ : State
    σ = saved_at (change_at w) (state_in w n) k m

    saved₁ : saved_at (change_at w₁) (state_in w₁ n) (k + 1) (branch_at w₁ d).mark ≡ σ
    saved₁ = ap (λ (b : OpenBranch). saved_at (change_at w₁) (state_in w₁ n) (k + 1) b.mark) top ∙ logged_saved l m h.0

    rest : branches_of (branch_at w₁) (change_at w₁) σ (branch_at w d).outer m d ≡ branches_of (branch_at w) (change_at w) σ (branch_at w d).outer m d
    rest =
        let a = h.0 in
        sym (branches_agree (branch_at w) (branch_at w₁) (change_at w) (change_at w₁) σ (branch_at w d).outer m d below
        (λ j i. sym (l.before j (omega arith))) h.2)

    pub logged_branches : (v : ℕ) → branches_of (branch_at w₁) (change_at w₁) (state_in w₁ n) v (k + 1) (suc d)
        ≡ lower_to v (branches_of (branch_at w) (change_at w) (state_in w n) u k (suc d))
    logged_branches v =
        let R = (λ t. branches_of (branch_at w₁) (change_at w₁) (saved₁ t) (top t).outer (top t).mark d) ∙ rest in
        λ t. record { id = (top t).id; saved = saved₁ t; target = (top t).target; window = v } ∷ R t

  pub logged_bound : (v : ℕ) → k + 1 + d + v ≤ max_window → WindowBound (branch_at w₁) v (suc d) (k + 1)
  logged_bound v b =
      let a = h.0 in
      let a₁ : m ≤ k + 1 = omega arith in
      let H = bound_agree (branch_at w) (branch_at w₁) (branch_at w d).outer m d below h.2 in
      subst (λ (y : OpenBranch). (y.mark ≤ k + 1) × (k + 1 + d + v ≤ max_window) × WindowBound (branch_at w₁) y.outer d y.mark) (sym top) (a₁, b, H)

-- ---- a branch pushed as number d, with the log's length as its mark
module _ (w : List ℕ) (n k d : ℕ) (b : OpenBranch) (hn : n ≤ limit) (room : working_words ≤ length w) (apart : 6 * k + 4 * d ≤ first_branch)
    (mark : b.mark ≡ k) (h : WindowBound (branch_at w) b.outer d k) where
  abbrev w₂ : List ℕ
  w₂ = branch_stored w d b

  abbrev vs : List ℕ
  vs = b.id ∷ b.target ∷ b.outer ∷ b.mark ∷ []

  new : branch_at w₂ d ≡ b
  new = branch-stored w d b (omega arith)

  old : (j : ℕ) → j < d → branch_at w j ≡ branch_at w₂ j
  old j l = sym (branch_same j (same_after vs w (branch_base d) (branch_base j) 4 (omega arith)))

  logs : (j : ℕ) → j < k → change_at w j ≡ change_at w₂ j
  logs j l = sym (change_same j (same-before vs w (branch_base d) (change_base j) 6 (omega arith)))

  pub pushed-state : state_in w₂ n ≡ state_in w n
  pushed-state = state-past vs w (branch_base d) n hn (omega arith)

  mark₂ : (branch_at w₂ d).mark ≡ k
  mark₂ = ap (λ (x : OpenBranch). x.mark) new ∙ mark

  saved₂ : saved_at (change_at w₂) (state_in w₂ n) k (branch_at w₂ d).mark ≡ state_in w n
  saved₂ =
      let z : k - k ≡ 0 = omega arith in
      ap (saved_at (change_at w₂) (state_in w₂ n) k) mark₂
      ∙ ap (λ (x : ℕ). restore (last_changes (change_at w₂) k x) (state_in w₂ n)) z
      ∙ pushed-state

  pub pushed-branches : (v : ℕ) → branches_of (branch_at w₂) (change_at w₂) (state_in w₂ n) v k (suc d)
      ≡ record { id = b.id; saved = state_in w n; target = b.target; window = v } ∷ branches_of (branch_at w) (change_at w) (state_in w n) b.outer k d
  pushed-branches v =
      let A = branches_agree (branch_at w) (branch_at w₂) (change_at w) (change_at w₂) (state_in w n) b.outer k d old logs h in
      let R = (λ t. branches_of (branch_at w₂) (change_at w₂) (saved₂ t) (new t).outer (mark₂ t) d) ∙ sym A in
      λ t. record { id = (new t).id; saved = saved₂ t; target = (new t).target; window = v } ∷ R t

  pub pushed-bound : (v : ℕ) → k + d + v ≤ max_window → WindowBound (branch_at w₂) v (suc d) k
  pushed-bound v l =
      let m : b.mark ≤ k = omega arith in
      let H = subst (WindowBound (branch_at w₂) b.outer d) (sym mark) (bound_agree (branch_at w) (branch_at w₂) b.outer k d old h) in
      subst (λ (x : OpenBranch). (x.mark ≤ k) × (k + d + v ≤ max_window) × WindowBound (branch_at w₂) x.outer d x.mark) (sym new) (m, l, H)

  pub pushed-log : LogBound (number_at w) (change_at w) k (count_in w) → LogBound (number_at w₂) (change_at w₂) k (count_in w₂)
  pushed-log l =
      let numbers : (j : ℕ) → j < k → number_at w j ≡ number_at w₂ j = λ j i.
      sym (first-same (same-before vs w (branch_base d) (change_base j) 1 (omega arith)) (lit< tt)) in
      let count : count_in w ≡ count_in w₂ =
      ap (λ (x : ℕ). min x max_entries) (sym (first-same (same-before vs w (branch_base d) entry_count 1 (omega arith)) (lit< tt))) in
      subst (LogBound (number_at w₂) (change_at w₂) k) count
      (log_agree (number_at w) (number_at w₂) (change_at w) (change_at w₂) k (count_in w) numbers logs l)
