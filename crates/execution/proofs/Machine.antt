-- What is next, in the rules' machine and by the control's numbers.
-- Assumes nothing.
use mathlib.Core.Path.{◌≡◌, refl, sym, ap, ap₂, ◌∙◌, subst}
use mathlib.Core.Bool.{Bool, true, false, ◌||◌, or-true, true≢false}
use mathlib.Core.List.{List, [], ◌∷◌}
use Prim.Native.Nat.{ℕ, zero, suc, ◌<◌, ◌≤◌}
use native.Mathlib.Omega.{arith}
use lib.Dec.{eqb, leb}
use lib.ListN.{length}
use borrow.Author.Tests.{leb-false, le-leb, lt-leb, eq-eqb, ne_eqb}
use Rattle.location.specs.declared.Label.{Label}
use Rattle.token.specs.declared.Expression.{Expression}
use Rattle.instruction.specs.declared.Instruction.{Instruction}
use Rattle.instruction.specs.declared.Instruction.TheVariants.{Skip, Assign, Load, Store, Jump, BranchZero, AssignIf, Barrier}
use Rattle.instruction.specs.Meaning.{meaning}
use Rattle.rules.specs.Rules.Instructions.{Instr, skip, assign, load, store, jmp, beqz, cassign, spbarr, branching, other, branch_view}
use Rattle.rules.specs.Rules.Plain.{Code, State, end_place, fetch, exec}
use Rattle.rules.specs.Rules.Mispredicting.{Branch, Machine, Step, expired, rolling, opening, forward, ordinary, lower, step_on, step, plain_step}
use Rattle.rules.specs.Rules.Runs.{over_on, over}
use Rattle.rules.proofs.Theorems.StepLaws.{branch-or_other, forward-other}
use Rattle.rules.specs.Rules.Changes.{Change}
use Rattle.work.specs.declared.OpenBranch.{OpenBranch}
use Rattle.work.specs.declared.machine.Control.{Control}
use Rattle.work.specs.Words.{change_at, branch_at}
use Rattle.work.specs.Machines.{state_in, branches_of, branches-length, machine_of, WindowBound, Fit}
use Rattle.execution.specs.declared.Mode.{Mode}
use Rattle.execution.specs.declared.Mode.TheVariants as modes
use Rattle.execution.specs.declared.rule.Rule.TheVariants as rule
use Rattle.std.specs.Prelude.{None}
use Rattle.execution.specs.Next.{step_by, forward_by, over_at, expired_on, rule_by, rule_at, Opens}

-- ---- END with nothing open
pub over_zero : (d last p : ℕ) → d ≡ 0 → leb last p ≡ over_at d last p
over_zero zero last p e = refl
over_zero (suc d) last p e = absurd (omega arith)

pub over_open : (d last p : ℕ) → (d ≡ 0 → ⊥) → false ≡ over_at d last p
over_open zero last p h = absurd (h refl)
over_open (suc d) last p h = refl

-- a place of the program is not END
over-inside : (d last p : ℕ) → p < last → over_at d last p ≡ false
over-inside zero last p h = lt-leb last p h
over-inside (suc d) last p h = refl

module _ (code : Code) where
  over-branches : (e : ℕ → OpenBranch) (g : ℕ → Change) (σ : State) (v k d p : ℕ)
      → over_on code p (branches_of e g σ v k d) ≡ over_at d (end_place code) p
  unfolding over_on
  over-branches e g σ v k zero p = refl
  over-branches e g σ v k (suc d) p = refl

  pub over_by : (w : List ℕ) (c : Control) (n : ℕ) → over code (machine_of w c n) ≡ over_at c.depth (end_place code) c.place
  unfolding over
  over_by w c n = over-branches (branch_at w) (change_at w) (state_in w n) c.window c.log c.depth c.place

-- ---- rule 1, by the control's numbers
module _ (e : ℕ → OpenBranch) (g : ℕ → Change) (σ : State) (v k : ℕ) where
  expired_depth : (d n p : ℕ) → expired_on n p (branches_of e g σ v k d) ≡ true → 0 < d
  expired_depth zero n p h = absurd (true≢false (sym h))
  expired_depth (suc d) n p h = omega arith

  -- its tests: END with a branch open, a window of 0, and neither
  expired-end : (d n p : ℕ) → (d ≡ 0 → ⊥) → n ≤ p → expired_on n p (branches_of e g σ v k d) ≡ true
  expired-end zero n p o h = absurd (o refl)
  expired-end (suc d) n p o h = ap (λ (b : Bool). eqb v 0 || b) (le-leb n p h) ∙ or-true (eqb v 0)

  expired_spent : (d n p : ℕ) → (d ≡ 0 → ⊥) → v ≡ 0 → expired_on n p (branches_of e g σ v k d) ≡ true
  expired_spent zero n p o z = absurd (o refl)
  expired_spent (suc d) n p o z = ap (λ (b : Bool). b || leb n p) (eq-eqb v 0 z)

  expired_not : (d n p : ℕ) → (v ≡ 0 → ⊥) → p < n → expired_on n p (branches_of e g σ v k d) ≡ false
  expired_not zero n p o h = refl
  expired_not (suc d) n p o h = ap₂ ◌||◌ (ne_eqb v 0 o) (lt-leb n p h)

-- what the code's tests name
module _ (c : Control) (last : ℕ) (w : List ℕ) (n : ℕ) where
  abbrev branches : List Branch
  branches = (machine_of w c n).branches

  named : {x y : Bool} → over_at c.depth last c.place ≡ x → expired_on last c.place branches ≡ y
      → rule_by x y ≡ rule_at last c.depth (machine_of w c n)
  named a b = sym (λ i. rule_by (a i) (b i))

  pub names_over : last ≤ c.place → c.depth ≡ 0 → rule.Over ≡ rule_at last c.depth (machine_of w c n)
  names_over h z = named (sym (over_zero c.depth last c.place z) ∙ le-leb last c.place h) refl

  pub names_end : last ≤ c.place → (c.depth ≡ 0 → ⊥) → rule.RollBack ≡ rule_at last c.depth (machine_of w c n)
  names_end h o =
      named (sym (over_open c.depth last c.place o))
      (expired-end (branch_at w) (change_at w) (state_in w n) c.window c.log c.depth last c.place o h)

  pub names_spent : (c.depth ≡ 0 → 0 < c.window) → c.place < last → c.window ≡ 0 → rule.RollBack ≡ rule_at last c.depth (machine_of w c n)
  names_spent some h z =
      named (over-inside c.depth last c.place h)
      (expired_spent (branch_at w) (change_at w) (state_in w n) c.window c.log c.depth last c.place (λ d. let k = some d in omega arith) z)

  pub names_advance : c.place < last → (c.window ≡ 0 → ⊥) → rule.Advance ≡ rule_at last c.depth (machine_of w c n)
  names_advance h o =
      named (over-inside c.depth last c.place h)
      (expired_not (branch_at w) (change_at w) (state_in w n) c.window c.log c.depth last c.place o h)

  -- and what the names say
  pub over-named : rule.Over ≡ rule_at last c.depth (machine_of w c n) → over_at c.depth last c.place ≡ true
  over-named = go (over_at c.depth last c.place) (expired_on last c.place branches) refl
    where
      go : (x y : Bool) → over_at c.depth last c.place ≡ x → rule.Over ≡ rule_by x y → over_at c.depth last c.place ≡ true
      go true y a h = a
      go false true a h = absurd (let q : ◌≡◌ {A = ℕ} 0 1 = cc in omega arith)
      go false false a h = absurd (let q : ◌≡◌ {A = ℕ} 0 1 = cc in omega arith)

  -- neither is the run over, nor has the top expired otherwise than said
  pub record Going (x : Bool) : Type 0 where
    pub on : over_at c.depth last c.place ≡ false
    pub top : expired_on last c.place branches ≡ x

  pub back-named : rule.RollBack ≡ rule_at last c.depth (machine_of w c n) → Going true
  back-named = go (over_at c.depth last c.place) (expired_on last c.place branches) refl refl
    where
      go : (x y : Bool) → over_at c.depth last c.place ≡ x → expired_on last c.place branches ≡ y → rule.RollBack ≡ rule_by x y → Going true
      go true y a b h = absurd (let q : ◌≡◌ {A = ℕ} 0 1 = cc in omega arith)
      go false true a b h = record { on = a; top = b }
      go false false a b h = absurd (let q : ◌≡◌ {A = ℕ} 0 1 = cc in omega arith)

  pub advance_named : rule.Advance ≡ rule_at last c.depth (machine_of w c n) → Going false
  advance_named = go (over_at c.depth last c.place) (expired_on last c.place branches) refl refl
    where
      go : (x y : Bool) → over_at c.depth last c.place ≡ x → expired_on last c.place branches ≡ y → rule.Advance ≡ rule_by x y → Going false
      go true y a b h = absurd (let q : ◌≡◌ {A = ℕ} 0 1 = cc in omega arith)
      go false true a b h = absurd (let q : ◌≡◌ {A = ℕ} 0 1 = cc in omega arith)
      go false false a b h = record { on = a; top = b }

  pub open_back : Going true → 0 < c.depth
  open_back g = expired_depth (branch_at w) (change_at w) (state_in w n) c.window c.log c.depth last c.place g.top

-- with nothing open the window is not 0
pub closed-window : {w : List ℕ} (c : Control) → Fit w c → c.depth ≡ 0 → 0 < c.window
closed-window {w} c f z = (subst (λ (d : ℕ). WindowBound (branch_at w) c.window d c.log) z f.bound).1

-- where the instruction at the place is next there is some window left, and the place is one of the program's
module _ (c : Control) (last : ℕ) (w : List ℕ) (n : ℕ) where
  not_expired : expired_on last c.place (machine_of w c n).branches ≡ false → 0 < c.depth → (0 < c.window) × (c.place < last)
  not_expired h = go c.depth h
    where
      pick : (v : ℕ) (a b : Bool) → eqb v 0 ≡ a → leb last c.place ≡ b → (a || b) ≡ false → (0 < v) × (c.place < last)
      pick v true b e f h = absurd (true≢false h)
      pick v false true e f h = absurd (true≢false h)
      pick v false false e f h = let z = eqb_not v e in (omega arith, leb-false last c.place f)
        where
          eqb_not : (v : ℕ) → eqb v 0 ≡ false → 0 < v
          eqb_not zero e = absurd (true≢false e)
          eqb_not (suc v) e = omega arith

      go : (d : ℕ) → expired_on last c.place (branches_of (branch_at w) (change_at w) (state_in w n) c.window c.log d) ≡ false → 0 < d
          → (0 < c.window) × (c.place < last)
      go zero h lt = absurd (omega arith)
      go (suc d) h lt = pick c.window (eqb c.window 0) (leb last c.place) refl refl h

  over_false : (d : ℕ) → over_at d last c.place ≡ false → d ≡ 0 → c.place < last
  over_false zero e z = leb-false last c.place e
  over_false (suc d) e z = absurd (omega arith)

module _ {c : Control} {last : ℕ} {w : List ℕ} {n : ℕ} where
  pub place_inside : Going c last w n false → c.place < last
  place_inside g = go c.depth refl
    where
      go : (d : ℕ) → c.depth ≡ d → c.place < last
      go zero z = over_false c last w n c.depth g.on z
      go (suc d) z = (not_expired c last w n g.top (omega arith)).1

  pub window-left : Fit w c → Going c last w n false → 0 < c.window
  window-left f g = go c.depth refl
    where
      go : (d : ℕ) → c.depth ≡ d → 0 < c.window
      go zero z = closed-window c f z
      go (suc d) z = (not_expired c last w n g.top (omega arith)).0

  -- a place of the program, with some window left: the top has not expired
  pub still_going : c.place < last → 0 < c.window → Going c last w n false
  still_going h v = record {
    on = over-inside c.depth last c.place h;
    top = expired_not (branch_at w) (change_at w) (state_in w n) c.window c.log c.depth last c.place (λ z. omega arith) h;
  }

-- ---- the rules' step: a top branch that has expired, or not
pub record Top (code : Code) (M : Machine) : Type 0 where
  pub top : Branch
  pub others : List Branch
  pub branches : M.branches ≡ top ∷ others
  pub rolls : step code M ≡ rolling M top others

pub step-expired : (code : Code) (M : Machine) → expired_on (end_place code) M.place M.branches ≡ true → Top code M
unfolding step
step-expired code M = go M.branches refl
  where
    go : (bs : List Branch) → M.branches ≡ bs → expired_on (end_place code) M.place bs ≡ true → Top code M
    go [] e h = absurd (true≢false (sym h))
    go (b ∷ bs) e h = record { top = b; others = bs; branches = e; rolls = ap (step_on code M) e ∙ (unfold step_on expired in rw h) }

step-forward : (code : Code) (M : Machine) → expired_on (end_place code) M.place M.branches ≡ false
    → step code M ≡ forward code M (fetch code M.place)
unfolding step
step-forward code M = go M.branches refl
  where
    go : (bs : List Branch) → M.branches ≡ bs → expired_on (end_place code) M.place bs ≡ false
        → step_on code M M.branches ≡ forward code M (fetch code M.place)
    go [] e h = ap (step_on code M) e ∙ (unfold step_on in refl)
    go (b ∷ bs) e h = ap (step_on code M) e ∙ (unfold step_on expired in rw h)

-- where no branch has expired, the step is that of the instruction at the place
pub forward-step : (mode : Mode) (code : Code) (M : Machine) → expired_on (end_place code) M.place M.branches ≡ false
    → forward_by mode code M (fetch code M.place) ≡ step_by mode code M
unfolding plain_step
forward-step modes.Plain code M e = refl
forward-step modes.Mispredicting code M e = sym (step-forward code M e)

-- with nothing open nothing has expired
pub closed_not_expired : (last : ℕ) (w : List ℕ) (c : Control) (n : ℕ) → c.depth ≡ 0
    → expired_on last c.place (machine_of w c n).branches ≡ false
closed_not_expired last w c n h = rw h

-- a plain step opens nothing
pub plain_closed : (code : Code) (w w' : List ℕ) (c c' : Control) (n : ℕ) → c.depth ≡ 0
    → machine_of w' c' n ≡ (plain_step code (machine_of w c n)).next → c'.depth ≡ 0
unfolding plain_step ordinary lower
plain_closed code w w' c c' n d e =
    sym (branches-length (branch_at w') (change_at w') (state_in w' n) c'.window c'.log c'.depth)
    ∙ ap (λ (M : Machine). length M.branches) (rw d at e)

-- ---- what an instruction opens: one that is no branch is rule 3's
pub never_opens : (mode : Mode) (i : Instr) → ((r l : ℕ) → i ≡ beqz r l → ⊥) → Opens mode i None
never_opens modes.Plain i n = λ code M. refl
never_opens modes.Mispredicting i n =
    branch-or_other (λ (j : Instr). ((r l : ℕ) → j ≡ beqz r l → ⊥) → Opens modes.Mispredicting j None)
    (λ r l n. absurd (n r l refl)) (λ j e n code M. forward-other code M j e) i n

-- ---- how many observations an instruction makes: by rule 3
abbrev shown : Instr → ℕ
shown skip = 0
shown (assign r e) = 0
shown (load r e) = 1
shown (store r e) = 1
shown (jmp e) = 1
shown (beqz r l) = 1
shown (cassign r b e) = 0
shown spbarr = 0

shown-ordinary : (code : Code) (M : Machine) (i : Instr) → shown i ≡ length (ordinary code M i).obs
unfolding ordinary exec
shown-ordinary code M skip = refl
shown-ordinary code M (assign r e) = refl
shown-ordinary code M (load r e) = refl
shown-ordinary code M (store r e) = refl
shown-ordinary code M (jmp e) = refl
shown-ordinary code M (beqz r l) = refl
shown-ordinary code M (cassign r b e) = refl
shown-ordinary code M spbarr = refl

-- the code has no part in it
pub same-shown : (code code' : Code) (M : Machine) (i : Instr) → length (ordinary code M i).obs ≡ length (ordinary code' M i).obs
same-shown code code' M i = sym (shown-ordinary code M i) ∙ shown-ordinary code' M i

-- and in each of the two runs
abbrev branch_shown : Mode → ℕ
branch_shown modes.Plain = 1
branch_shown modes.Mispredicting = 2

abbrev shown_by : Mode → Instr → ℕ
shown_by mode i = elim (branch_view i) [ branching r l ↦ branch_shown mode | other ↦ shown i ]

other-kind : (mode : Mode) (i : Instr) → branch_view i ≡ other → (code : Code) (M : Machine) → shown_by mode i ≡ length (forward_by mode code M i).obs
other-kind modes.Plain i e code M = rw (e, shown_by) (shown-ordinary code M i)
other-kind modes.Mispredicting i e code M =
    rw (e, shown_by) (shown-ordinary code M i ∙ ap (λ (s : Step). length s.obs) (sym (forward-other code M i e)))

branch-kind : (mode : Mode) (r l : ℕ) (code : Code) (M : Machine) → branch_shown mode ≡ length (forward_by mode code M (beqz r l)).obs
unfolding forward opening
branch-kind modes.Plain r l code M = shown-ordinary code M (beqz r l)
branch-kind modes.Mispredicting r l code M = refl

pub observed-kind : (mode : Mode) (i : Instr) (code : Code) (M : Machine) → shown_by mode i ≡ length (forward_by mode code M i).obs
observed-kind mode i =
    branch-or_other (λ (j : Instr). (code : Code) (M : Machine) → shown_by mode j ≡ length (forward_by mode code M j).obs) (branch-kind mode)
    (other-kind mode) i

-- an instruction of any kind but these four makes none
pub observed_none : (mode : Mode) (i : Instruction) → ((r : ℕ) (e : Expression) → i ≡ Load r e → ⊥)
    → ((r : ℕ) (e : Expression) → i ≡ Store r e → ⊥) → ((e : Expression) → i ≡ Jump e → ⊥)
    → ((r : ℕ) (l : Label) → i ≡ BranchZero r l → ⊥) → (p : List ℕ) (code : Code) (M : Machine)
    → 0 ≡ length (forward_by mode code M (meaning p i)).obs
observed_none mode Skip a b c d p code M = observed-kind mode _ code M
observed_none mode (Assign r e) a b c d p code M = observed-kind mode _ code M
observed_none mode (Load r e) a b c d p code M = absurd (a r e refl)
observed_none mode (Store r e) a b c d p code M = absurd (b r e refl)
observed_none mode (Jump e) a b c d p code M = absurd (c e refl)
observed_none mode (BranchZero r l) a b c d p code M = absurd (d r l refl)
observed_none mode (AssignIf r k e) a b c d p code M = observed-kind mode _ code M
observed_none mode Barrier a b c d p code M = observed-kind mode _ code M

-- no step makes more than two
shown-most : (i : Instr) → shown i ≤ 2
shown-most skip = omega arith
shown-most (assign r e) = omega arith
shown-most (load r e) = omega arith
shown-most (store r e) = omega arith
shown-most (jmp e) = omega arith
shown-most (beqz r l) = omega arith
shown-most (cassign r b e) = omega arith
shown-most spbarr = omega arith

forward-most : (code : Code) (M : Machine) (i : Instr) → length (forward code M i).obs ≤ 2
forward-most code M i =
    branch-or_other (λ (j : Instr). length (forward code M j).obs ≤ 2) (λ r l. unfold forward opening in omega arith)
    (λ j e. rw (forward-other code M j e) (let f = shown-ordinary code M j in let h = shown-most j in omega arith)) i

pub step-most : (mode : Mode) (code : Code) (M : Machine) → length (step_by mode code M).obs ≤ 2
unfolding plain_step step
step-most modes.Plain code M =
    let i = fetch code M.place in
    let e = shown-ordinary code M i in
    let h = shown-most i in
    omega arith
step-most modes.Mispredicting code M = go (expired_on (end_place code) M.place M.branches) refl
  where
    go : (b : Bool) → expired_on (end_place code) M.place M.branches ≡ b → length (step code M).obs ≤ 2
    go true e = let q = step-expired code M e in rw q.rolls (unfold rolling in omega arith)
    go false e = rw (step-forward code M e) (forward-most code M (fetch code M.place))
