-- What the leaves' stores make of the words.
-- Assumes nothing.
use mathlib.Core.Path.{◌≡◌, refl, ap, ◌∙◌}
use mathlib.Core.List.{List, [], ◌∷◌}
use Prim.Native.Nat.{ℕ, zero, suc, ◌+◌, ◌-◌, ◌*◌, ◌/◌, ◌%◌, ◌^◌, ◌<◌, ◌≤◌}
use native.Mathlib.Nat.{add-zero, le_refl}
use native.Mathlib.Numerals.{add-one}
use native.Mathlib.Omega.{arith}
use lib.ListN.{length, set}
use lib.Seq.{sets, length-sets, set-set, set_comm}
use Rattle.location.specs.declared.LocationSet.{LocationSet}
use Rattle.location.specs.Sets.{limit, empty, single, only, none}
use Rattle.location.proofs.Laws.{word-bit}
use Rattle.rules.specs.declared.Tagged.{Tagged}
use Rattle.rules.specs.Rules.Expressions.{tagged}
use Rattle.work.specs.Layout.{operand_base, change_base}
use Rattle.work.specs.Words.{tagged_in, tagged_at, stored_in, stored, number_at, operand_logged, changed, undone, tagged_words}

-- ---- the operand of a value that rests on its location l alone
-- one word stored before those that are
set_through : (vs w : List ℕ) (i j x : ℕ) → j < i → set (sets w i vs) j x ≡ sets (set w j x) i vs
set_through [] w i j x h = refl
set_through (a ∷ vs) w i j x h =
    set_through vs (set w i a) (suc i) j x (omega arith) ∙ ap (λ (u : List ℕ). sets u (suc i) vs) (set_comm w i j a x (λ e. absurd (omega arith)))

-- one of them stored anew
set-sets : (vs w : List ℕ) (i k x : ℕ) → k < length vs → set (sets w i vs) (i + k) x ≡ sets w i (set vs k x)
set-sets [] w i k x h = absurd (omega arith)
set-sets (a ∷ vs) w i zero x h =
    rw (add-zero i) (set_through vs (set w i a) (suc i) i x (le_refl (suc i)) ∙ ap (λ (u : List ℕ). sets u (suc i) vs) (set-set w i a x))
set-sets (a ∷ vs) w i (suc k) x h =
    let e : i + suc k ≡ suc i + k = omega arith in
    rw e (set-sets vs (set w i a) (suc i) k x (omega arith))

-- the words of an operand with the empty set, one of the set's four stored anew
own-words : (q x v : ℕ) → q < 4 → set (0 ∷ 0 ∷ 0 ∷ 0 ∷ v ∷ []) q x ≡ tagged_words (tagged v (record { words = set (0 ∷ 0 ∷ 0 ∷ 0 ∷ []) q x }))
own-words zero x v h = refl
own-words (suc zero) x v h = refl
own-words (suc (suc zero)) x v h = refl
own-words (suc (suc (suc zero))) x v h = refl
own-words (suc (suc (suc (suc q)))) x v h = absurd (omega arith)

-- k is the location as the code read it, s the empty set as it made it, and w₁ the words after the first store
pub own_law : (w w₁ : List ℕ) (v l k : ℕ) (s : LocationSet) → l < limit → k ≡ l → s ≡ empty → w₁ ≡ stored_in w (operand_base k) (tagged v s)
    → set w₁ (operand_base k + k / 64) (1 * 2 ^ (k % 64) % 2 ^ 64) ≡ stored w l (tagged v (single l))
unfolding empty single only none
own_law w w₁ v l k s h ek es e =
    let i = operand_base l in
    let q = l / 64 in
    let x = 2 ^ (l % 64) in
    let vs = tagged_words (tagged v empty) in
    rw (e, es, ek, word-bit (l % 64) (omega arith)) (set-sets vs w i q x (omega arith) ∙ ap (sets w i) (own-words q x v (omega arith)))

-- ---- a change
length_logged : (w : List ℕ) (k l : ℕ) → length (operand_logged w k l) ≡ length w
length_logged w k l = length-sets w (change_base k) (l ∷ tagged_words (tagged_at w l))

pub length-changed : (w : List ℕ) (k l : ℕ) (v : Tagged) → length (changed w k l v) ≡ length w
length-changed w k l v = length-sets (operand_logged w k l) (operand_base l) (tagged_words v) ∙ length_logged w k l

-- one change undone, and then those before it; l and x are what the code read
pub undo_law : (w w₁ : List ℕ) (k mark l : ℕ) (x : Tagged) → mark ≤ k → l ≡ number_at w k → x ≡ tagged_in w (change_base k + 1)
    → w₁ ≡ stored w l x → undone w₁ k (k - mark) ≡ undone w (k + 1) (k + 1 - mark)
undo_law w w₁ k mark l x h el ex e =
    let s : k + 1 - mark ≡ suc (k - mark) = omega arith in
    rw (s, add-one) (ap (λ (u : List ℕ). undone u k (k - mark)) (e ∙ (λ i. stored w (el i) (ex i))))
