-- Words past those of the machine can be stored without a change of the machine.
-- Assumes nothing.
use mathlib.Core.Path.{◌≡◌, refl, sym, ap, ◌∙◌, subst}
use mathlib.Core.List.{List}
use Prim.Native.Nat.{ℕ, ◌<◌, ◌≤◌, min}
use native.Mathlib.Omega.{arith}
use lib.Dec.{lit<}
use lib.Seq.{sets, length-sets}
use Rattle.location.specs.Sets.{limit}
use Rattle.rules.specs.Rules.Limits.{max_entries}
use Rattle.work.specs.declared.machine.Control.{Control}
use Rattle.work.specs.Layout.{entry_count, change_base, branch_base, reports}
use Rattle.work.specs.Words.{count_in, number_at, change_at, branch_at}
use Rattle.work.specs.Machines.{state_in, branches_of, machine_of, LogBound, Fit}
use Rattle.work.proofs.Ranges.{same-before, first-same, change_same, branch_same}
use Rattle.work.proofs.States.{state-past, log_agree}
use Rattle.work.proofs.Branches.{branches_agree, bound_agree}
use Rattle.work.proofs.Moves.{fit-bound}

-- the words w' hold the machine that w holds
pub record SameMachine (w w' : List ℕ) : Type 0 where
  pub machine : (c : Control) (n : ℕ) → Fit w c → n ≤ limit → machine_of w' c n ≡ machine_of w c n
  pub fits : (c : Control) → Fit w c → Fit w' c

pub machine-refl : (w : List ℕ) → SameMachine w w
machine-refl w = record { machine = λ c n f h. refl; fits = λ c f. f }

pub machine_trans : {w w' w'' : List ℕ} → SameMachine w w' → SameMachine w' w'' → SameMachine w w''
machine_trans a b = record {
  machine = λ c n f h. b.machine c n (a.fits c f) h ∙ a.machine c n f h;
  fits = λ c f. b.fits c (a.fits c f);
}

module _ (vs w : List ℕ) (i : ℕ) (past : reports ≤ i) where
  abbrev w₁ : List ℕ
  w₁ = sets w i vs

  branches : (j : ℕ) → branch_at w j ≡ branch_at w₁ j
  branches j = sym (branch_same j (same-before vs w i (branch_base j) 4 (omega arith)))

  module _ (c : Control) (f : Fit w c) where
    changes : (j : ℕ) → j < c.log → change_at w j ≡ change_at w₁ j
    changes j l = let b = fit-bound f in sym (change_same j (same-before vs w i (change_base j) 6 (omega arith)))

    numbers : (j : ℕ) → j < c.log → number_at w j ≡ number_at w₁ j
    numbers j l = let b = fit-bound f in sym (first-same (same-before vs w i (change_base j) 1 (omega arith)) (lit< tt))

    count : count_in w ≡ count_in w₁
    count = ap (λ (x : ℕ). min x max_entries) (sym (first-same (same-before vs w i entry_count 1 (omega arith)) (lit< tt)))

    fits : Fit w₁ c
    fits = record {
      room = rw (length-sets w i vs) f.room;
      bound = bound_agree (branch_at w) (branch_at w₁) c.window c.log c.depth (λ j l. branches j) f.bound;
      opened = f.opened;
      log = subst (LogBound (number_at w₁) (change_at w₁) c.log) count
          (log_agree (number_at w) (number_at w₁) (change_at w) (change_at w₁) c.log (count_in w) numbers changes f.log);
    }

    machine : (n : ℕ) → n ≤ limit → machine_of w₁ c n ≡ machine_of w c n
    machine n h =
        let S = state-past vs w i n h (omega arith) in
        let B = branches_agree (branch_at w) (branch_at w₁) (change_at w) (change_at w₁) (state_in w n) c.window c.log c.depth
        (λ j l. branches j) changes f.bound in
        let R : branches_of (branch_at w₁) (change_at w₁) (state_in w₁ n) c.window c.log c.depth
        ≡ branches_of (branch_at w) (change_at w) (state_in w n) c.window c.log c.depth =
        (λ t. branches_of (branch_at w₁) (change_at w₁) (S t) c.window c.log c.depth) ∙ sym B in
        λ t. record { state = S t; place = c.place; branches = R t; opened = c.opened }

  pub past_same : SameMachine w w₁
  past_same = record { machine = λ c n f h. machine c f n h; fits = λ c f. fits c f }
