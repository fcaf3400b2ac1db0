-- What the code's counts, stores and windows are in the rules.
-- Assumes nothing.
use mathlib.Core.Path.{◌≡◌, refl, sym, ap, ◌∙◌, subst}
use mathlib.Core.List.{List, [], ◌∷◌}
use Prim.Native.Nat.{ℕ, zero, suc, ◌+◌, ◌-◌, ◌*◌, ◌<◌, ◌≤◌, max}
use native.Mathlib.Omega.{arith}
use lib.ListN.{length, get_or, drop}
use lib.Seq.{sets}
use Rattle.location.specs.declared.LocationSet.{LocationSet}
use Rattle.location.specs.Sets.{union}
use Rattle.rules.specs.Rules.Instructions.{Instr, kind}
use Rattle.rules.specs.Rules.Plain.{State, Code}
use Rattle.rules.specs.Rules.Mispredicting.{Branch, remaining, lower, new_window}
use Rattle.rules.specs.Rules.Runs.{gather}
use Rattle.rules.specs.Rules.Changes.{Change}
use Rattle.rules.proofs.Theorems.Undo.{remaining-less}
use Rattle.instruction.specs.declared.Instruction.{Instruction}
use Rattle.instruction.specs.Meaning.{meaning}
use Rattle.work.specs.declared.OpenBranch.{OpenBranch}
use Rattle.work.specs.declared.machine.Control.{Control}
use Rattle.work.specs.Layout.{labels}
use Rattle.work.specs.Words.{branch_at, change_at, window_at, costs_in}
use Rattle.work.specs.Machines.{state_in, branches_of, branches-length, machine_of, Left}
use Rattle.work.specs.Moves.{lower_to, window_on}
use Rattle.work.proofs.Moves.{at_above}
use Rattle.stepping.specs.Progress.{gather_at}
use Rattle.stepping.specs.Steps.{left_by, Charged, Leaves, Lowers}
use Rattle.rules.specs.Theorems.Bounds.{PositiveCosts}

-- ---- the plain set, by the number of open branches
pub gathers-plain : (d : ℕ) (plain s : LocationSet) → d ≡ 0 → union plain s ≡ gather_at d plain s
gathers-plain d plain s z = ap (λ (j : ℕ). gather_at j plain s) (sym z)

pub keeps-plain : (d : ℕ) (plain s : LocationSet) → (d ≡ 0 → ⊥) → plain ≡ gather_at d plain s
keeps-plain zero plain s h = absurd (h refl)
keeps-plain (suc d) plain s h = refl

pub gathered : (e : ℕ → OpenBranch) (g : ℕ → Change) (σ : State) (v k d : ℕ) (plain s : LocationSet)
    → gather_at d plain s ≡ gather (branches_of e g σ v k d) plain s
unfolding gather
gathered e g σ v k zero plain s = refl
gathered e g σ v k (suc d) plain s = refl

-- ---- the rollbacks
-- how many branches are open, in the machine
pub depth_of : (w : List ℕ) (c : Control) (n : ℕ) → c.depth ≡ length (machine_of w c n).branches
depth_of w c n = sym (branches-length (branch_at w) (change_at w) (state_in w n) c.window c.log c.depth)

pub length-lower : (code : Code) (i : Instr) (bs : List Branch) → length (lower code i bs) ≡ length bs
unfolding lower
length-lower code i [] = refl
length-lower code i (b ∷ bs) = refl

-- of o branches opened and d open, after a step that makes b rollbacks
pub counted_back : (o d o' d' b : ℕ) → o' + d ≡ o + d' + b → (0 < b → d ≤ o) → o' - d' ≡ o - d + b
counted_back o d o' d' zero e h = omega arith
counted_back o d o' d' (suc b) e h = let l = h (omega arith) in omega arith

-- ---- the observations in the trace area
-- two, one after the other
pub stored-twice : (t t₁ t₂ : List ℕ) (k a b x y : ℕ) → t₁ ≡ sets t (2 * k) (a ∷ b ∷ []) → t₂ ≡ sets t₁ (2 * (k + 1)) (x ∷ y ∷ [])
    → t₂ ≡ sets t (2 * k) (a ∷ b ∷ x ∷ y ∷ [])
stored-twice t t₁ t₂ k a b x y e₁ e₂ =
    let s : 2 * (k + 1) ≡ suc (suc (2 * k)) = omega arith in
    e₂ ∙ (λ i. sets (e₁ i) (s i) (x ∷ y ∷ []))

-- ---- the window
-- what is left of the top's, where it was v; u with nothing open
pub top-lowered : (code : Code) (i : Instr) (e : ℕ → OpenBranch) (g : ℕ → Change) (σ : State) (u v k d : ℕ)
    → lower_to (window_at d u (remaining code i v)) (branches_of e g σ v k d) ≡ lower code i (branches_of e g σ v k d)
unfolding lower
top-lowered code i e g σ u v k zero = refl
top-lowered code i e g σ u v k (suc d) = refl

-- a new branch's window
pub window-lowered : (code : Code) (i : Instr) (e : ℕ → OpenBranch) (g : ℕ → Change) (σ : State) (u v k d : ℕ)
    → window_on (branches_of e g σ v k d) code.window (window_at d u (remaining code i v)) ≡ new_window code (lower code i (branches_of e g σ v k d))
unfolding lower new_window
window-lowered code i e g σ u v k zero = refl
window-lowered code i e g σ u v k (suc d) = refl

-- what is left is less, if there was any
pub left_less : (code : Code) → PositiveCosts code.costs → (i : Instr) (v : ℕ) → 0 < v → remaining code i v < v
left_less code positive i v h = omega (arith, remaining-less code positive i v (λ z. omega arith))

-- with d branches open
at_less : (d t u v : ℕ) → 0 < d → v < t → window_at d u v < t
at_less zero t u v d h = absurd (omega arith)
at_less (suc n) t u v d h = h

pub left-some : (u : ℕ) → 0 < u → (code : Code) → PositiveCosts code.costs → (i : Instr) (c : Control) → 0 < c.window → Left c (left_by u code i c)
left-some u k code positive i c h = record {
  less = λ d. at_less c.depth c.window u (remaining code i c.window) d (left_less code positive i c.window h);
  some = λ z. subst (λ (d : ℕ). 0 < window_at d u (remaining code i c.window)) (sym z) k;
}

-- what the code finds, with nothing open and else
pub leaves : (w : List ℕ) (c : Control) (i : Instruction) (v : ℕ)
    → ((p : List ℕ) (code : Code) → code.costs ≡ costs_in (drop labels w) → v ≡ left_by c.window code (meaning p i) c) → Leaves w c i v
leaves w c i v exact = record {
  exact = exact;
  left = λ positive h.
      let any : Code = record { prog = []; cells = 0; window = 0; costs = costs_in (drop labels w) } in
      subst (Left c) (sym (exact [] any refl)) (left-some c.window h any positive (meaning [] i) c h);
}

pub closed-leaves : (w : List ℕ) (c : Control) (i : Instruction) → c.depth ≡ 0 → Leaves w c i c.window
closed-leaves w c i z =
    leaves w c i c.window (λ p code costs. ap (λ (d : ℕ). window_at d c.window (remaining code (meaning p i) c.window)) (sym z))

-- k is the kind that the code finds, and x its entry
pub charged_exact : (w : List ℕ) (window : ℕ) (i : Instruction) (v k x : ℕ) → ((p : List ℕ) → k ≡ kind (meaning p i)) → x ≡ get_or (costs_in (drop labels w)) k 0
    → ((p : List ℕ) (code : Code) → x ≡ get_or code.costs (kind (meaning p i)) 0 → v ≡ remaining code (meaning p i) window) → Charged w window i v
charged_exact w window i v k x ek ex e = record { exact = λ p code costs. e p code (ex ∙ (λ j. get_or (sym costs j) (ek p j) 0)) }

not_below : (d v : ℕ) → (v ≡ 0 → ⊥) → v ≡ window_at d (max 1 v) v
not_below zero v n = omega arith
not_below (suc d) v n = refl

-- v is what is left by the costs
module _ {w : List ℕ} {c : Control} {i : Instruction} {v : ℕ} (charged : Charged w c.window i v) where
  pub open_leaves : (c.depth ≡ 0 → ⊥) → Leaves w c i v
  open_leaves o =
      leaves w c i v (λ p code costs. charged.exact p code costs ∙ at_above c.depth c.window (remaining code (meaning p i) c.window) o)

  -- nothing, and so the least window; or some
  pub none_left : {u : ℕ} → v ≡ 0 → u ≡ window_at c.depth 1 0 → Lowers w c i u
  none_left z h = record {
    exact = λ p code costs.
        let r = sym z ∙ charged.exact p code costs in
        h ∙ ap (λ (m : ℕ). window_at c.depth (max 1 m) m) r;
  }

  pub some_left : (v ≡ 0 → ⊥) → Lowers w c i v
  some_left n = record {
    exact = λ p code costs. not_below c.depth v n ∙ ap (λ (m : ℕ). window_at c.depth (max 1 m) m) (charged.exact p code costs);
  }
