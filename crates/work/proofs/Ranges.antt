-- Words that a run of stores leaves as they were, and what is read there; and what is read where they were stored.
-- Assumes nothing.
use mathlib.Core.Path.{◌≡◌, refl, sym, ap, ap₂, ◌∙◌, fun_ext}
use mathlib.Core.List.{List, [], ◌∷◌}
use Prim.Native.Nat.{ℕ, zero, suc, ◌+◌, ◌-◌, ◌<◌, ◌≤◌}
use native.Mathlib.Nat.{add-zero, le_refl}
use native.Mathlib.Numerals.{add-one}
use native.Mathlib.Omega.{arith}
use lib.Dec.{lit<}
use lib.ListN.{length, get_or, drop, set, length-set}
use lib.Seq.{sets, get_or-set_same, get_or-set_other, get_or-drop, drop-set-lt, drop-drop}
use Rattle.rules.specs.declared.Tagged.{Tagged}
use Rattle.work.specs.declared.OpenBranch.{OpenBranch}
use Rattle.work.specs.Layout.{change_base, branch_base, log_base}
use Rattle.work.specs.Words.{tagged_in, stored_in, number_at, change_in, change_at, branch_at, branch_stored, tagged_words}
use Rattle.location.proofs.Laws.{four}

-- the n words from one on are the same in both
pub record SameRange (w w' : List ℕ) (from n : ℕ) : Type 0 where
  pub word : (j : ℕ) → j < n → get_or w (from + j) 0 ≡ get_or w' (from + j) 0

before-sets : (vs w : List ℕ) (i j : ℕ) → j < i → get_or (sets w i vs) j 0 ≡ get_or w j 0
before-sets [] w i j h = refl
before-sets (a ∷ vs) w i j h = before-sets vs (set w i a) (suc i) j (omega arith) ∙ get_or-set_other w i j a 0 (omega arith)

after-sets : (vs w : List ℕ) (i j : ℕ) → i + length vs ≤ j → get_or (sets w i vs) j 0 ≡ get_or w j 0
after-sets [] w i j h = refl
after-sets (a ∷ vs) w i j h = after-sets vs (set w i a) (suc i) j (omega arith) ∙ get_or-set_other w i j a 0 (omega arith)

pub in_sets : (vs w : List ℕ) (i j : ℕ) → j < length vs → i + length vs ≤ length w → get_or (sets w i vs) (i + j) 0 ≡ get_or vs j 0
in_sets [] w i j h f = absurd (omega arith)
in_sets (a ∷ vs) w i zero h f =
    rw (add-zero i) (before-sets vs (set w i a) (suc i) i (le_refl (suc i)) ∙ get_or-set_same w i a 0 (omega arith))
in_sets (a ∷ vs) w i (suc j) h f =
    let e : i + suc j ≡ suc i + j = omega arith in
    rw e (in_sets vs (set w i a) (suc i) j (omega arith) (rw (length-set w i a) (omega arith)))

pub drop-sets : (vs w : List ℕ) (i n : ℕ) → i + length vs ≤ n → drop n (sets w i vs) ≡ drop n w
drop-sets [] w i n h = refl
drop-sets (a ∷ vs) w i n h = drop-sets vs (set w i a) (suc i) n (omega arith) ∙ drop-set-lt n w i a (omega arith)

-- ---- where words are the same
pub same-before : (vs w : List ℕ) (i from n : ℕ) → from + n ≤ i → SameRange (sets w i vs) w from n
same-before vs w i from n h = record { word = λ j l. before-sets vs w i (from + j) (omega arith) }

pub same_after : (vs w : List ℕ) (i from n : ℕ) → i + length vs ≤ from → SameRange (sets w i vs) w from n
same_after vs w i from n h = record { word = λ j l. after-sets vs w i (from + j) (omega arith) }

pub same-past : (w w' : List ℕ) (m from n : ℕ) → m ≤ from → drop m w ≡ drop m w' → SameRange w w' from n
same-past w w' m from n h d =
    record {
      word = λ j l.
          let k = from - m + j in
          let e : from + j ≡ m + k = omega arith in
          rw e (sym (get_or-drop m w k 0) ∙ ap (λ (u : List ℕ). get_or u k 0) d ∙ get_or-drop m w' k 0);
    }

pub drop_past : (w w' : List ℕ) (m n : ℕ) → m ≤ n → drop m w ≡ drop m w' → drop n w ≡ drop n w'
drop_past w w' m n h d =
    let e : n ≡ m + (n - m) = omega arith in
    rw (e, ← drop-drop (n - m) m w, ← drop-drop (n - m) m w', d)

-- ---- what is read there
pub first-same : {w w' : List ℕ} {i n : ℕ} → SameRange w w' i n → 0 < n → get_or w i 0 ≡ get_or w' i 0
first-same {w} {w'} {i} s h = ap (λ (j : ℕ). get_or w j 0) (sym (add-zero i)) ∙ s.word 0 h ∙ ap (λ (j : ℕ). get_or w' j 0) (add-zero i)

pub tagged-same : {w w' : List ℕ} {i : ℕ} → SameRange w w' i 5 → tagged_in w i ≡ tagged_in w' i
tagged-same s =
    let e₀ = first-same s (lit< tt) in
    let e₁ = s.word 1 (lit< tt) in
    let e₂ = s.word 2 (lit< tt) in
    let e₃ = s.word 3 (lit< tt) in
    let e₄ = s.word 4 (lit< tt) in
    λ t. record { value = e₄ t; deps = record { words = e₀ t ∷ e₁ t ∷ e₂ t ∷ e₃ t ∷ [] } }

pub change_same : {w w' : List ℕ} (k : ℕ) → SameRange w w' (change_base k) 6 → change_at w k ≡ change_at w' k
change_same {w} {w'} k s =
    let e = first-same s (lit< tt) in
    let x : SameRange w w' (change_base k + 1) 5 = record
    { word = λ j l. let p : change_base k + 1 + j ≡ change_base k + (1 + j) = omega arith in rw p (s.word (1 + j) (omega arith)) } in
    λ t. change_in (e t) (tagged-same x t)

pub branch_same : {w w' : List ℕ} (k : ℕ) → SameRange w w' (branch_base k) 4 → branch_at w k ≡ branch_at w' k
branch_same k s =
    let e₀ = first-same s (lit< tt) in
    let e₁ = s.word 1 (lit< tt) in
    let e₂ = s.word 2 (lit< tt) in
    let e₃ = s.word 3 (lit< tt) in
    λ t. record { id = e₀ t; target = e₁ t; outer = e₂ t; mark = e₃ t }

-- the log and the branches stand past the operands
pub numbers_same : (w w' : List ℕ) → drop log_base w ≡ drop log_base w' → number_at w ≡ number_at w'
numbers_same w w' d = fun_ext (λ k. first-same (same-past w w' log_base (change_base k) 1 (omega arith) d) (lit< tt))

pub log-same : (w w' : List ℕ) → drop log_base w ≡ drop log_base w' → change_at w ≡ change_at w'
log-same w w' d = fun_ext (λ k. change_same k (same-past w w' log_base (change_base k) 6 (omega arith) d))

pub branches-same : (w w' : List ℕ) → drop log_base w ≡ drop log_base w' → branch_at w ≡ branch_at w'
branches-same w w' d = fun_ext (λ k. branch_same k (same-past w w' log_base (branch_base k) 4 (omega arith) d))

-- ---- what is read where it was stored
first_in : (vs w : List ℕ) (i : ℕ) → 0 < length vs → i + length vs ≤ length w → get_or (sets w i vs) i 0 ≡ get_or vs 0 0
first_in vs w i h f = ap (λ (j : ℕ). get_or (sets w i vs) j 0) (sym (add-zero i)) ∙ in_sets vs w i 0 h f

pub tagged-stored : (w : List ℕ) (i : ℕ) (v : Tagged) → length v.deps.words ≡ 4 → i + 5 ≤ length w → tagged_in (stored_in w i v) i ≡ v
tagged-stored w i v h f =
    let vs = tagged_words v in
    let e₀ = first_in vs w i (lit< tt) f in
    let e₁ = in_sets vs w i 1 (lit< tt) f in
    let e₂ = in_sets vs w i 2 (lit< tt) f in
    let e₃ = in_sets vs w i 3 (lit< tt) f in
    let e₄ = in_sets vs w i 4 (lit< tt) f in
    let e = (λ t. e₀ t ∷ e₁ t ∷ e₂ t ∷ e₃ t ∷ []) ∙ four v.deps.words h in
    λ t. record { value = e₄ t; deps = record { words = e t } }

pub change_stored : (w : List ℕ) (k l : ℕ) (v : Tagged) → length v.deps.words ≡ 4 → change_base k + 6 ≤ length w
    → change_at (sets w (change_base k) (l ∷ tagged_words v)) k ≡ change_in l v
change_stored w k l v h f =
    let i = change_base k in
    let vs = l ∷ tagged_words v in
    let e₀ : get_or (sets w i vs) i 0 ≡ l = first_in vs w i (omega arith) (omega arith) in
    let e₁ : tagged_in (sets w i vs) (i + 1) ≡ v =
    ap (tagged_in (sets w i vs)) (add-one i) ∙ tagged-stored (set w i l) (suc i) v h (rw (length-set w i l) (omega arith)) in
    ap₂ change_in e₀ e₁

pub number-stored : (w : List ℕ) (k l : ℕ) (v : Tagged) → change_base k + 6 ≤ length w
    → number_at (sets w (change_base k) (l ∷ tagged_words v)) k ≡ l
number-stored w k l v f = first_in (l ∷ tagged_words v) w (change_base k) (omega arith) (omega arith)

pub branch-stored : (w : List ℕ) (k : ℕ) (b : OpenBranch) → branch_base k + 4 ≤ length w → branch_at (branch_stored w k b) k ≡ b
branch-stored w k b f =
    let vs = b.id ∷ b.target ∷ b.outer ∷ b.mark ∷ [] in
    let i = branch_base k in
    let e₀ = first_in vs w i (lit< tt) f in
    let e₁ = in_sets vs w i 1 (lit< tt) f in
    let e₂ = in_sets vs w i 2 (lit< tt) f in
    let e₃ = in_sets vs w i 3 (lit< tt) f in
    λ t. record { id = e₀ t; target = e₁ t; outer = e₂ t; mark = e₃ t }
