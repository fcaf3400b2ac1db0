-- The state in the words after stores, after a change, and after changes are undone.
-- Assumes nothing.
use mathlib.Core.Path.{◌≡◌, refl, sym, ap, ap₂, ◌∙◌, subst, subst₂}
use mathlib.Core.Bool.{Bool, true, false, cond}
use mathlib.Core.List.{List, [], ◌∷◌, ◌++◌}
use Prim.Native.Nat.{ℕ, zero, suc, ◌+◌, ◌-◌, ◌<◌, ◌≤◌, min}
use native.Mathlib.Nat.{add-zero, zero-add, le_refl}
use native.Mathlib.Numerals.{add-one}
use native.Mathlib.Omega.{arith}
use lib.Dec.{ltb, lit<}
use lib.ListN.{length, get_or, take, drop, set, length-set}
use lib.Seq.{sets, length-sets, set-set, get_or-set_same, take_at}
use borrow.Author.Tests.{ltb-true, ltb-false, lt-ltb}
use Rattle.location.specs.Sets.{limit, empty}
use Rattle.rules.specs.declared.Tagged.{Tagged}
use Rattle.rules.specs.Rules.Limits.{max_entries}
use Rattle.rules.specs.Rules.Expressions.{tagged}
use Rattle.rules.specs.Rules.Plain.{State, Entry, at, put, with_outside}
use Rattle.rules.specs.Rules.Changes.{Change, located, replaced, added, reworded, revert, restore}
use Rattle.work.specs.Layout.{operand_base, operands, entry_count, address_base, change_base, branch_base, log_base}
use Rattle.work.specs.Words.{tagged_in, tagged_at, stored, count_in, entry_at, appended, change_in, number_at, change_at, operand_logged, changed, extended}
use Rattle.work.specs.Words.{undone, branch_at, tagged_words}
use Rattle.work.specs.Machines.{locations_from, entries_from, table_in, state_in, with_operand, with_entry, last_changes, saved_at, count_before, LogBound}
use Rattle.work.proofs.Ranges.{same-before, same_after, first-same, tagged-same, change_same, branch_same, numbers_same, log-same}
use Rattle.work.proofs.Ranges.{branches-same, tagged-stored, number-stored, change_stored, drop-sets, drop_past}

-- ---- one operand stored, at the locations
out_stored : (w : List ℕ) (i n l : ℕ) (v : Tagged) → l < i → locations_from (stored w l v) i n ≡ locations_from w i n
out_stored w i zero l v h = refl
out_stored w i (suc n) l v h =
    let e₁ = tagged-same (same_after (tagged_words v) w (operand_base l) (operand_base i) 5 (omega arith)) in
    let e₂ = out_stored w (suc i) n l v (omega arith) in
    λ t. e₁ t ∷ e₂ t

from-stored : (w : List ℕ) (i n j l : ℕ) (v : Tagged) → l ≡ i + j → length v.deps.words ≡ 4 → operand_base l + 5 ≤ length w
    → locations_from (stored w l v) i n ≡ set (locations_from w i n) j v
from-stored w i zero j l v h e f = refl
from-stored w i (suc n) zero l v h e f =
    let p : i ≡ l = omega arith in
    let e₁ : tagged_at (stored w l v) i ≡ v = ap (tagged_at (stored w l v)) p ∙ tagged-stored w (operand_base l) v e f in
    let e₂ = out_stored w (suc i) n l v (omega arith) in
    λ t. e₁ t ∷ e₂ t
from-stored w i (suc n) (suc j) l v h e f =
    let e₁ = tagged-same (same-before (tagged_words v) w (operand_base l) (operand_base i) 5 (omega arith)) in
    let e₂ = from-stored w (suc i) n j l v (omega arith) e f in
    λ t. e₁ t ∷ e₂ t

-- ---- stores past the operands of the locations
pub locations-before : (vs w : List ℕ) (i l n : ℕ) → operand_base (l + n) ≤ i → locations_from (sets w i vs) l n ≡ locations_from w l n
locations-before vs w i l zero h = refl
locations-before vs w i l (suc n) h =
    let e₁ = tagged-same (same-before vs w i (operand_base l) 5 (omega arith)) in
    let e₂ = locations-before vs w i (suc l) n (omega arith) in
    λ t. e₁ t ∷ e₂ t

-- ---- entries of the table that are the same in both words
pub entries_same : (w w' : List ℕ) (i n : ℕ) → ((j : ℕ) → j < i + n → entry_at w j ≡ entry_at w' j) → entries_from w i n ≡ entries_from w' i n
entries_same w w' i zero h = refl
entries_same w w' i (suc n) h =
    let e = h i (omega arith) in
    let es = entries_same w w' (suc i) n (λ j l. h j (omega arith)) in
    λ t. e t ∷ es t

-- so is the table where the counts are
table_same : (w w' : List ℕ) → get_or w entry_count 0 ≡ get_or w' entry_count 0 → ((j : ℕ) → j < max_entries → entry_at w j ≡ entry_at w' j) → table_in w ≡ table_in w'
table_same w w' c h =
    ap (λ (x : ℕ). entries_from w 0 (min x max_entries)) c ∙ entries_same w w' 0 (count_in w') (λ j l. h j (omega arith))

-- a word before or after a run of stores is as it was; so is the table where they are past it
word-before : (vs w : List ℕ) (i j : ℕ) → j + 1 ≤ i → get_or (sets w i vs) j 0 ≡ get_or w j 0
word-before vs w i j h = first-same (same-before vs w i j 1 h) (lit< tt)

word_after : (vs w : List ℕ) (i j : ℕ) → i + length vs ≤ j → get_or (sets w i vs) j 0 ≡ get_or w j 0
word_after vs w i j h = first-same (same_after vs w i j 1 h) (lit< tt)

table-past : (vs w : List ℕ) (i : ℕ) → log_base ≤ i → table_in (sets w i vs) ≡ table_in w
table-past vs w i h = table_same (sets w i vs) w (word-before vs w i entry_count (omega arith)) kept
  where
    kept : (j : ℕ) → j < max_entries → entry_at (sets w i vs) j ≡ entry_at w j
    kept j l =
        let a = word-before vs w i (address_base j) (omega arith) in
        let x = tagged-same (same-before vs w i (operand_base (limit + j)) 5 (omega arith)) in
        λ t. record { address = a t; word = x t }

-- an operand of a location leaves it
table_kept : (w : List ℕ) (l : ℕ) (v : Tagged) → l < limit → table_in (stored w l v) ≡ table_in w
table_kept w l v h = table_same (stored w l v) w (word_after (tagged_words v) w (operand_base l) entry_count (omega arith)) kept
  where
    kept : (j : ℕ) → j < max_entries → entry_at (stored w l v) j ≡ entry_at w j
    kept j k =
        let a = word_after (tagged_words v) w (operand_base l) (address_base j) (omega arith) in
        let x = tagged-same (same_after (tagged_words v) w (operand_base l) (operand_base (limit + j)) 5 (omega arith)) in
        λ t. record { address = a t; word = x t }

-- ---- an operand of an entry stored is that entry with another word
entry-below : (w : List ℕ) (i j : ℕ) (v : Tagged) → i < max_entries → j < i → entry_at (stored w (limit + i) v) j ≡ entry_at w j
entry-below w i j v h l =
    let a = word_after (tagged_words v) w (operand_base (limit + i)) (address_base j) (omega arith) in
    let x = tagged-same (same-before (tagged_words v) w (operand_base (limit + i)) (operand_base (limit + j)) 5 (omega arith)) in
    λ t. record { address = a t; word = x t }

entry-above : (w : List ℕ) (i j : ℕ) (v : Tagged) → i < max_entries → i < j → entry_at (stored w (limit + i) v) j ≡ entry_at w j
entry-above w i j v h l =
    let a = word_after (tagged_words v) w (operand_base (limit + i)) (address_base j) (omega arith) in
    let x = tagged-same (same_after (tagged_words v) w (operand_base (limit + i)) (operand_base (limit + j)) 5 (omega arith)) in
    λ t. record { address = a t; word = x t }

entry_here : (w : List ℕ) (i : ℕ) (v : Tagged) → i < max_entries → length v.deps.words ≡ 4 → log_base ≤ length w
    → entry_at (stored w (limit + i) v) i ≡ record { address = get_or w (address_base i) 0; word = v }
entry_here w i v h e f =
    let a = word_after (tagged_words v) w (operand_base (limit + i)) (address_base i) (omega arith) in
    let x = tagged-stored w (operand_base (limit + i)) v e (omega arith) in
    λ t. record { address = a t; word = x t }

above-reworded : (w : List ℕ) (i m n : ℕ) (v : Tagged) → i < max_entries → i < m → entries_from (stored w (limit + i) v) m n ≡ entries_from w m n
above-reworded w i m zero v h l = refl
above-reworded w i m (suc n) v h l =
    let a = entry-above w i m v h l in
    let b = above-reworded w i (suc m) n v h (omega arith) in
    λ t. a t ∷ b t

from-reworded : (w : List ℕ) (m n i d : ℕ) (v : Tagged) → i ≡ m + d → i < max_entries → length v.deps.words ≡ 4 → log_base ≤ length w
    → entries_from (stored w (limit + i) v) m n ≡ reworded (entries_from w m n) d v
unfolding reworded
from-reworded w m zero i d v q h e f = refl
from-reworded w m (suc n) i zero v q h e f =
    let z : i ≡ m = omega arith in
    let a : entry_at (stored w (limit + i) v) m ≡ record { address = get_or w (address_base m) 0; word = v } =
    ap (entry_at (stored w (limit + i) v)) (sym z) ∙ entry_here w i v h e f ∙ ap (λ (x : ℕ). record { address = get_or w (address_base x) 0; word = v }) z in
    let b = above-reworded w i (suc m) n v h (omega arith) in
    λ t. a t ∷ b t
from-reworded w m (suc n) i (suc d) v q h e f =
    let a = entry-below w i m v h (omega arith) in
    let b = from-reworded w (suc m) n i d v (omega arith) h e f in
    λ t. a t ∷ b t

table-reworded : (w : List ℕ) (i : ℕ) (v : Tagged) → i < max_entries → length v.deps.words ≡ 4 → log_base ≤ length w
    → table_in (stored w (limit + i) v) ≡ reworded (table_in w) i v
table-reworded w i v h e f =
    let c = word_after (tagged_words v) w (operand_base (limit + i)) entry_count (omega arith) in
    ap (λ (x : ℕ). entries_from (stored w (limit + i) v) 0 (min x max_entries)) c ∙ from-reworded w 0 (count_in w) i i v (omega arith) h e f

-- ---- any operand stored
pub state-located : (w : List ℕ) (n l : ℕ) (v : Tagged) → l < limit → length v.deps.words ≡ 4 → operand_base l + 5 ≤ length w
    → state_in (stored w l v) n ≡ put (state_in w n) l v
unfolding put
state-located w n l v h e f =
    let k = from-stored w 0 n l l v (omega arith) e f in
    let o = table_kept w l v h in
    λ t. record { inside = k t; outside = o t }

state-reworded : (w : List ℕ) (n i : ℕ) (v : Tagged) → n ≤ limit → i < max_entries → length v.deps.words ≡ 4 → log_base ≤ length w
    → state_in (stored w (limit + i) v) n ≡ with_outside (state_in w n) (reworded (table_in w) i v)
state-reworded w n i v hn h e f =
    let k = locations-before (tagged_words v) w (operand_base (limit + i)) 0 n (omega arith) in
    let o = table-reworded w i v h e f in
    λ t. record { inside = k t; outside = o t }

pub state-stored : (w : List ℕ) (n l : ℕ) (v : Tagged) → n ≤ limit → l < operands → length v.deps.words ≡ 4 → log_base ≤ length w
    → state_in (stored w l v) n ≡ with_operand (state_in w n) l v
state-stored w n l v hn hl e f = go (ltb l limit) refl
  where
    go : (b : Bool) → ltb l limit ≡ b
        → state_in (stored w l v) n ≡ cond b (put (state_in w n) l v) (with_outside (state_in w n) (reworded (table_in w) (l - limit) v))
    go true h = let m = ltb-true l limit h in state-located w n l v m e (omega arith)
    go false h =
        let m = ltb-false l limit h in
        let s : l ≡ limit + (l - limit) = omega arith in
        ap (λ (j : ℕ). state_in (stored w j v) n) s ∙ state-reworded w n (l - limit) v hn (omega arith) e f

-- ---- stores past the state's words
pub state-past : (vs w : List ℕ) (i n : ℕ) → n ≤ limit → log_base ≤ i → state_in (sets w i vs) n ≡ state_in w n
state-past vs w i n hn h =
    let k = locations-before vs w i 0 n (omega arith) in
    let o = table-past vs w i h in
    λ t. record { inside = k t; outside = o t }

-- ---- fewer entries
take-from : (w : List ℕ) (i m n : ℕ) → take m (entries_from w i n) ≡ entries_from w i (min m n)
take-from w i zero zero = refl
take-from w i zero (suc n) = let z : 0 ≡ min 0 (suc n) = omega arith in ap (entries_from w i) z
take-from w i (suc m) zero = let z : 0 ≡ min (suc m) 0 = omega arith in ap (entries_from w i) z
take-from w i (suc m) (suc n) =
    let z : min (suc m) (suc n) ≡ suc (min m n) = omega arith in
    ap (λ (es : List Entry). entry_at w i ∷ es) (take-from w (suc i) m n) ∙ ap (entries_from w i) (sym z)

-- the words that a new count leaves
counted-entry : (w : List ℕ) (x j : ℕ) → j < max_entries → entry_at (set w entry_count x) j ≡ entry_at w j
counted-entry w x j h =
    let a = word_after (x ∷ []) w entry_count (address_base j) (omega arith) in
    let y = tagged-same (same-before (x ∷ []) w entry_count (operand_base (limit + j)) 5 (omega arith)) in
    λ t. record { address = a t; word = y t }

-- ---- the operand of the count given back
-- it leaves every entry's words
count-entry : (w : List ℕ) (t : Tagged) (j : ℕ) → j < max_entries → entry_at (stored w operands t) j ≡ entry_at w j
count-entry w t j h =
    let a = word_after (tagged_words t) w (operand_base operands) (address_base j) (omega arith) in
    let y = tagged-same (same-before (tagged_words t) w (operand_base operands) (operand_base (limit + j)) 5 (omega arith)) in
    λ i. record { address = a i; word = y i }

count-stored : (w : List ℕ) (t : Tagged) → length t.deps.words ≡ 4 → log_base ≤ length w → get_or (stored w operands t) entry_count 0 ≡ t.value
count-stored w t e f = ap (λ (x : Tagged). x.value) (tagged-stored w (operand_base operands) t e (omega arith))

-- and the first entries are left
state-counted : (w : List ℕ) (n : ℕ) (t : Tagged) → n ≤ limit → length t.deps.words ≡ 4 → log_base ≤ length w → t.value ≤ count_in w
    → state_in (stored w operands t) n ≡ with_outside (state_in w n) (take t.value (table_in w))
state-counted w n t hn e f h =
    let c = count_in w in
    let m = t.value in
    let w' = stored w operands t in
    let k = locations-before (tagged_words t) w (operand_base operands) 0 n (omega arith) in
    let z : min m max_entries ≡ min m c = omega arith in
    let o = ap (λ (x : ℕ). entries_from w' 0 (min x max_entries)) (count-stored w t e f) ∙ ap (entries_from w' 0) z
    ∙ entries_same w' w 0 (min m c) (λ j l. count-entry w t j (omega arith)) ∙ sym (take-from w 0 m c) in
    λ i. record { inside = k i; outside = o i }

-- ---- one operand read
from_at : (w : List ℕ) (i n j : ℕ) (d : Tagged) → j < n → get_or (locations_from w i n) j d ≡ tagged_at w (i + j)
from_at w i zero j d h = absurd (omega arith)
from_at w i (suc n) zero d h = ap (tagged_at w) (sym (add-zero i))
from_at w i (suc n) (suc j) d h = let e : suc i + j ≡ i + suc j = omega arith in from_at w (suc i) n j d (omega arith) ∙ ap (tagged_at w) e

pub state-at : (w : List ℕ) (n l : ℕ) → l < n → at (state_in w n) l ≡ tagged_at w l
unfolding at
state-at w n l h = from_at w 0 n l (tagged 0 empty) h ∙ ap (tagged_at w) (zero-add l)

-- ---- one location more, as the first state is stored
from_more : (w : List ℕ) (i n : ℕ) → locations_from w i (suc n) ≡ locations_from w i n ++ (tagged_at w (i + n) ∷ [])
from_more w i zero = ap (λ (j : ℕ). tagged_at w j ∷ []) (sym (add-zero i))
from_more w i (suc n) =
    let e : suc i + n ≡ i + suc n = omega arith in
    ap (λ (ts : List Tagged). tagged_at w i ∷ ts) (from_more w (suc i) n ∙ ap (λ (j : ℕ). locations_from w (suc i) n ++ (tagged_at w j ∷ [])) e)

pub locations-more : (w : List ℕ) (n : ℕ) (v : Tagged) → length v.deps.words ≡ 4 → operand_base n + 5 ≤ length w
    → locations_from (stored w n v) 0 (suc n) ≡ locations_from w 0 n ++ (v ∷ [])
locations-more w n v e f =
    let z : 0 + n ≡ n = omega arith in
    let S = locations-before (tagged_words v) w (operand_base n) 0 n (omega arith) in
    let X = ap (tagged_at (stored w n v)) z ∙ tagged-stored w (operand_base n) v e f in
    from_more (stored w n v) 0 n ∙ (λ t. S t ++ (X t ∷ []))

-- a location given its own operand
own_put : (w : List ℕ) (i n j l : ℕ) → l ≡ i + j → set (locations_from w i n) j (tagged_at w l) ≡ locations_from w i n
own_put w i zero j l h = refl
own_put w i (suc n) zero l h = let e : l ≡ i = omega arith in ap (λ (x : ℕ). tagged_at w x ∷ locations_from w (suc i) n) e
own_put w i (suc n) (suc j) l h = ap (λ (ts : List Tagged). tagged_at w i ∷ ts) (own_put w (suc i) n j l (omega arith))

-- an entry given its own word, and one given two words in turn
own-reworded : (w : List ℕ) (m n d l : ℕ) → l ≡ limit + (m + d) → reworded (entries_from w m n) d (tagged_at w l) ≡ entries_from w m n
unfolding reworded
own-reworded w m zero d l h = refl
own-reworded w m (suc n) zero l h =
    let e : l ≡ limit + m = omega arith in
    ap (λ (x : ℕ). record { address = get_or w (address_base m) 0; word = tagged_at w x } ∷ entries_from w (suc m) n) e
own-reworded w m (suc n) (suc d) l h = ap (λ (es : List Entry). entry_at w m ∷ es) (own-reworded w (suc m) n d l (omega arith))

reworded_again : (es : List Entry) (i : ℕ) (v x : Tagged) → reworded (reworded es i v) i x ≡ reworded es i x
unfolding reworded
reworded_again [] i v x = refl
reworded_again (e ∷ es) zero v x = refl
reworded_again (e ∷ es) (suc i) v x = ap (λ (fs : List Entry). e ∷ fs) (reworded_again es i v x)

-- ---- one change undone: operand x given back the word t
module _ (x : ℕ) (t : Tagged) where
  change_cases : (P : Change → Type 0) → (x < limit → P (located x t)) → (limit ≤ x → x < operands → P (replaced (x - limit) t))
      → (operands ≤ x → P (added t.value)) → P (change_in x t)
  change_cases P l r a = go (ltb x limit) (ltb x operands) refl refl
    where
      go : (b c : Bool) → ltb x limit ≡ b → ltb x operands ≡ c → P (cond b (located x t) (cond c (replaced (x - limit) t) (added t.value)))
      go true c e d = l (ltb-true x limit e)
      go false true e d = r (ltb-false x limit e) (ltb-true x operands d)
      go false false e d = a (ltb-false x operands d)

  pub drop-given : (w : List ℕ) → x ≤ operands → drop log_base (stored w x t) ≡ drop log_base w
  drop-given w h = drop-sets (tagged_words t) w (operand_base x) log_base (omega arith)

  state-given : (w : List ℕ) (n : ℕ) → x ≤ operands → length t.deps.words ≡ 4 → n ≤ limit → log_base ≤ length w
      → count_before (change_in x t) (count_in w) ≤ count_in w → state_in (stored w x t) n ≡ revert (change_in x t) (state_in w n)
  state-given w n hx e hn f =
      change_cases (λ u. count_before u (count_in w) ≤ count_in w → state_in (stored w x t) n ≡ revert u (state_in w n))
      (λ h c. state-located w n x t h e (omega arith))
      (λ g h c.
      let s : x ≡ limit + (x - limit) = omega arith in
      ap (λ (j : ℕ). state_in (stored w j t) n) s ∙ state-reworded w n (x - limit) t hn (omega arith) e f)
      (λ g c.
      let s : x ≡ operands = omega arith in
      ap (λ (j : ℕ). state_in (stored w j t) n) s ∙ state-counted w n t hn e f c)

  count-given : (w : List ℕ) → x ≤ operands → length t.deps.words ≡ 4 → log_base ≤ length w
      → count_before (change_in x t) (count_in w) ≤ count_in w → count_in (stored w x t) ≡ count_before (change_in x t) (count_in w)
  count-given w hx e f =
      change_cases (λ u. count_before u (count_in w) ≤ count_in w → count_in (stored w x t) ≡ count_before u (count_in w))
      (λ h c. ap (λ (y : ℕ). min y max_entries) (word_after (tagged_words t) w (operand_base x) entry_count (omega arith)))
      (λ g h c. ap (λ (y : ℕ). min y max_entries) (word_after (tagged_words t) w (operand_base x) entry_count (omega arith)))
      (λ g c.
      let s : x ≡ operands = omega arith in
      let z : min t.value max_entries ≡ t.value = omega arith in
      ap (λ (j : ℕ). count_in (stored w j t)) s ∙ ap (λ (y : ℕ). min y max_entries) (count-stored w t e f) ∙ z)

  -- an operand of a location or an entry given back what it was
  revert-operand : (σ : State) → x < operands → revert (change_in x t) σ ≡ with_operand σ x t
  revert-operand σ h = go (ltb x limit)
    where
      go : (b : Bool) → revert (cond b (located x t) (cond (ltb x operands) (replaced (x - limit) t) (added t.value))) σ
          ≡ cond b (put σ x t) (with_outside σ (reworded σ.outside (x - limit) t))
      go true = refl
      go false = rw (lt-ltb x operands h)

  count-operand : (n : ℕ) → x < operands → count_before (change_in x t) n ≡ n
  count-operand n h = change_cases (λ u. count_before u n ≡ n) (λ l. refl) (λ g l. refl) (λ g. absurd (omega arith))

-- ---- the log's bound
bound-same : {f f' : ℕ → ℕ} {g g' : ℕ → Change} {n n' : ℕ} (k : ℕ) → f ≡ f' → g ≡ g' → n ≡ n' → LogBound f g k n → LogBound f' g' k n'
bound-same {f} {f'} {g} {g'} {n} k ef eg en b =
    subst (λ (m : ℕ). LogBound f' g' k m) en (subst₂ (λ (x : ℕ → ℕ) (y : ℕ → Change). LogBound x y k n) ef eg b)

pub log_agree : (f f' : ℕ → ℕ) (g g' : ℕ → Change) (k n : ℕ) → ((j : ℕ) → j < k → f j ≡ f' j) → ((j : ℕ) → j < k → g j ≡ g' j)
    → LogBound f g k n → LogBound f' g' k n
log_agree f f' g g' zero n hf hg b = b
log_agree f f' g g' (suc k) n hf hg b =
    let E = hf k (le_refl (suc k)) in
    let G = hg k (le_refl (suc k)) in
    let b' = subst₂ (λ (x : ℕ) (u : Change). (x ≤ operands) × (count_before u n ≤ n) × LogBound f g k (count_before u n)) E G b in
    (b'.0, b'.1, log_agree f f' g g' k (count_before (g' k) n) (λ j l. hf j (omega arith)) (λ j l. hg j (omega arith)) b'.2)

-- there is an operand of each number
pub log_numbers : (f : ℕ → ℕ) (g : ℕ → Change) (k n : ℕ) → LogBound f g k n → (j : ℕ) → j < k → f j ≤ operands
log_numbers f g zero n b j h = absurd (omega arith)
log_numbers f g (suc k) n b j h = go (ltb j k) refl (log_numbers f g k (count_before (g k) n) b.2 j)
  where
    go : (x : Bool) → ltb j k ≡ x → (j < k → f j ≤ operands) → f j ≤ operands
    go true e before = before (ltb-true j k e)
    go false e before =
        let l = ltb-false j k e in
        let s : k ≡ j = omega arith in
        subst (λ (i : ℕ). f i ≤ operands) s b.0

-- one change more, number k, which the words w₁ have logged after those that the words w have
log-more : (w w₁ : List ℕ) (k : ℕ) → number_at w₁ k ≤ operands → count_before (change_at w₁ k) (count_in w₁) ≡ count_in w → count_in w ≤ count_in w₁
    → ((j : ℕ) → j < k → number_at w j ≡ number_at w₁ j) → ((j : ℕ) → j < k → change_at w j ≡ change_at w₁ j)
    → LogBound (number_at w) (change_at w) k (count_in w) → LogBound (number_at w₁) (change_at w₁) (k + 1) (count_in w₁)
log-more w w₁ k hn ec hc nums gs b =
    let b₁ = log_agree (number_at w) (number_at w₁) (change_at w) (change_at w₁) k (count_in w) nums gs b in
    let b₂ = subst (λ (m : ℕ). LogBound (number_at w₁) (change_at w₁) k m) (sym ec) b₁ in
    subst (λ (m : ℕ). LogBound (number_at w₁) (change_at w₁) m (count_in w₁)) (sym (add-one k)) (hn, subst (λ (m : ℕ). m ≤ count_in w₁) (sym ec) hc, b₂)

-- ---- changes undone
-- The words w₁ are those of w with the last j of k changes undone.
pub record Restored (w w₁ : List ℕ) (k j : ℕ) : Type 0 where
  pub past : drop log_base w₁ ≡ drop log_base w
  pub size : length w₁ ≡ length w
  pub state : (n : ℕ) → n ≤ limit → state_in w₁ n ≡ restore (last_changes (change_at w) k j) (state_in w n)
  pub log : LogBound (number_at w₁) (change_at w₁) (k - j) (count_in w₁)

pub undone-restores : (w : List ℕ) (k j : ℕ) → log_base ≤ length w → LogBound (number_at w) (change_at w) k (count_in w) → Restored w (undone w k j) k j
undone-restores w k zero f b =
    let z : k ≡ k - 0 = omega arith in
    record { past = refl; size = refl; state = λ n hn. refl; log = subst (λ (m : ℕ). LogBound (number_at w) (change_at w) m (count_in w)) z b }
undone-restores w zero (suc j) f b =
    let z : 0 ≡ 0 - suc j = omega arith in
    record { past = refl; size = refl; state = λ n hn. refl; log = subst (λ (m : ℕ). LogBound (number_at w) (change_at w) m (count_in w)) z b }
undone-restores w (suc k) (suc j) f b =
    let x = number_at w k in
    let t = tagged_in w (change_base k + 1) in
    let w₁ = stored w x t in
    let d = drop-given x t w b.0 in
    let l = length-sets w (operand_base x) (tagged_words t) in
    let f₁ : log_base ≤ length w₁ = rw l f in
    let G = log-same w₁ w d in
    let b₁ = bound-same k (sym (numbers_same w₁ w d)) (sym G) (sym (count-given x t w b.0 refl f b.1)) b.2 in
    let r = undone-restores w₁ k j f₁ b₁ in
    let z : k - j ≡ suc k - suc j = omega arith in
    let u = undone w₁ k j in
    record {
      past = r.past ∙ d;
      size = r.size ∙ l;
      state = λ n hn. let S = state-given x t w n b.0 refl hn f b.1 in r.state n hn ∙ (λ i. restore (last_changes (G i) k j) (S i));
      log = subst (λ (m : ℕ). LogBound (number_at u) (change_at u) m (count_in u)) z r.log;
    }

-- ---- a change logged
pub changes_agree : (g g' : ℕ → Change) (k j : ℕ) → ((i : ℕ) → i < k → g i ≡ g' i) → last_changes g k j ≡ last_changes g' k j
changes_agree g g' k zero h = refl
changes_agree g g' zero (suc j) h = refl
changes_agree g g' (suc k) (suc j) h =
    let e = h k (le_refl (suc k)) in
    let es = changes_agree g g' k j (λ i l. h i (omega arith)) in
    λ t. e t ∷ es t

-- The words w₁ have logged change number k, which takes their state of n locations back to that of the words w; those before it are the same.
pub record Logged (w w₁ : List ℕ) (n k : ℕ) : Type 0 where
  pub before : (j : ℕ) → j < k → change_at w₁ j ≡ change_at w j
  pub back : revert (change_at w₁ k) (state_in w₁ n) ≡ state_in w n

-- undoing it and those before it gives what undoing those before it gave
pub logged_saved : {w w₁ : List ℕ} {n k : ℕ} → Logged w w₁ n k → (m : ℕ) → m ≤ k
    → saved_at (change_at w₁) (state_in w₁ n) (k + 1) m ≡ saved_at (change_at w) (state_in w n) k m
logged_saved {w} {w₁} {n} {k} l m h =
    let s : k + 1 - m ≡ suc (k - m) = omega arith in
    let E = changes_agree (change_at w₁) (change_at w) k (k - m) l.before in
    ap₂ (λ (a b : ℕ). restore (last_changes (change_at w₁) a b) (state_in w₁ n)) (add-one k) s
    ∙ (λ t. restore (E t) (l.back t))

-- operand l given v
module _ (w : List ℕ) (n k l : ℕ) (v : Tagged) (hn : n ≤ limit) (hl : l < operands) (hk : change_base k + 6 ≤ length w) (e : length v.deps.words ≡ 4) where
  -- what is logged
  abbrev old : List ℕ
  old = l ∷ tagged_words (tagged_at w l)

  log-past : drop log_base (changed w k l v) ≡ drop log_base (operand_logged w k l)
  log-past = drop-sets (tagged_words v) (operand_logged w k l) (operand_base l) log_base (omega arith)

  the_number : number_at (changed w k l v) k ≡ l
  the_number = (λ t. numbers_same (changed w k l v) (operand_logged w k l) log-past t k) ∙ number-stored w k l (tagged_at w l) hk

  the_change : change_at (changed w k l v) k ≡ change_in l (tagged_at w l)
  the_change = (λ t. log-same (changed w k l v) (operand_logged w k l) log-past t k) ∙ change_stored w k l (tagged_at w l) refl hk

  same_numbers : (j : ℕ) → j < k → number_at (changed w k l v) j ≡ number_at w j
  same_numbers j h =
      (λ t. numbers_same (changed w k l v) (operand_logged w k l) log-past t j)
      ∙ first-same (same-before old w (change_base k) (change_base j) 1 (omega arith)) (lit< tt)

  same-changes : (j : ℕ) → j < k → change_at (changed w k l v) j ≡ change_at w j
  same-changes j h =
      (λ t. log-same (changed w k l v) (operand_logged w k l) log-past t j) ∙ change_same j (same-before old w (change_base k) (change_base j) 6 (omega arith))

  same_count : count_in (changed w k l v) ≡ count_in w
  same_count =
      ap (λ (y : ℕ). min y max_entries)
      (word_after (tagged_words v) (operand_logged w k l) (operand_base l) entry_count (omega arith) ∙ word-before old w (change_base k) entry_count (omega arith))

  pub changed-log : LogBound (number_at w) (change_at w) k (count_in w)
      → LogBound (number_at (changed w k l v)) (change_at (changed w k l v)) (k + 1) (count_in (changed w k l v))
  changed-log =
      let n₁ = count_in (changed w k l v) in
      log-more w (changed w k l v) k (rw the_number (omega arith))
      (ap (λ (u : Change). count_before u n₁) the_change ∙ count-operand l (tagged_at w l) n₁ hl ∙ same_count)
      (rw same_count (le_refl (count_in w))) (λ j h. sym (same_numbers j h)) (λ j h. sym (same-changes j h))

  pub changed-branch : (j : ℕ) → change_base k + 6 ≤ branch_base j → branch_at (changed w k l v) j ≡ branch_at w j
  changed-branch j h =
      branch_same j (same_after (tagged_words v) (operand_logged w k l) (operand_base l) (branch_base j) 4 (omega arith))
      ∙ branch_same j (same_after old w (change_base k) (branch_base j) 4 (omega arith))

  pub changed-state : state_in (changed w k l v) n ≡ with_operand (state_in w n) l v
  changed-state =
      state-stored (operand_logged w k l) n l v hn hl e (rw (length-sets w (change_base k) old) (omega arith))
      ∙ ap (λ (σ : State). with_operand σ l v) (state-past old w (change_base k) n hn (omega arith))

  -- given back what it was, the state is as it was
  own_again : with_operand (with_operand (state_in w n) l v) l (tagged_at w l) ≡ state_in w n
  unfolding put
  own_again = go (ltb l limit) refl
    where
      go : (b : Bool) → ltb l limit ≡ b
          → (let σ = cond b (put (state_in w n) l v) (with_outside (state_in w n) (reworded (table_in w) (l - limit) v)) in
          cond b (put σ l (tagged_at w l)) (with_outside σ (reworded σ.outside (l - limit) (tagged_at w l))) ≡ state_in w n)
      go true h =
          let q = set-set (locations_from w 0 n) l v (tagged_at w l) ∙ own_put w 0 n l l (omega arith) in
          λ t. record { inside = q t; outside = table_in w }
      go false h =
          let m = ltb-false l limit h in
          let s : l ≡ limit + (0 + (l - limit)) = omega arith in
          let q = reworded_again (table_in w) (l - limit) v (tagged_at w l) ∙ own-reworded w 0 (count_in w) (l - limit) l s in
          λ t. record { inside = locations_from w 0 n; outside = q t }

  pub changed_logged : Logged w (changed w k l v) n k
  changed_logged = record {
    before = same-changes;
    back = (λ t. revert (the_change t) (changed-state t))
        ∙ revert-operand l (tagged_at w l) (with_operand (state_in w n) l v) hl
        ∙ own_again;
  }

-- ---- one entry more
entries_more : (w : List ℕ) (i n : ℕ) → entries_from w i (suc n) ≡ entries_from w i n ++ (entry_at w (i + n) ∷ [])
entries_more w i zero = ap (λ (j : ℕ). entry_at w j ∷ []) (sym (add-zero i))
entries_more w i (suc n) =
    let e : suc i + n ≡ i + suc n = omega arith in
    ap (λ (es : List Entry). entry_at w i ∷ es) (entries_more w (suc i) n ∙ ap (λ (j : ℕ). entries_from w (suc i) n ++ (entry_at w j ∷ [])) e)

pub entries_length : (w : List ℕ) (i n : ℕ) → length (entries_from w i n) ≡ n
entries_length w i zero = refl
entries_length w i (suc n) = ap suc (entries_length w (suc i) n)

module _ (w : List ℕ) (i a : ℕ) (v : Tagged) (hi : i < max_entries) (f : log_base ≤ length w) (e : length v.deps.words ≡ 4) where
  -- the words with its operand, and then with its address
  abbrev filled : List ℕ
  filled = stored w (limit + i) v

  abbrev addressed : List ℕ
  addressed = set filled (address_base i) a

  filled-long : log_base ≤ length filled
  filled-long = rw (length-sets w (operand_base (limit + i)) (tagged_words v)) f

  addressed_word : (j : ℕ) → j < max_entries → tagged_at addressed (limit + j) ≡ tagged_at filled (limit + j)
  addressed_word j h = tagged-same (same-before (a ∷ []) filled (address_base i) (operand_base (limit + j)) 5 (omega arith))

  entry_old : (j : ℕ) → j < i → entry_at (appended w i a v) j ≡ entry_at w j
  entry_old j h =
      let x = word-before (a ∷ []) filled (address_base i) (address_base j) (omega arith) in
      let y = addressed_word j (omega arith) in
      counted-entry addressed (i + 1) j (omega arith) ∙ (λ t. record { address = x t; word = y t }) ∙ entry-below w i j v hi h

  entry_new : entry_at (appended w i a v) i ≡ record { address = a; word = v }
  entry_new =
      let x = get_or-set_same filled (address_base i) a 0 (omega (arith, filled-long)) in
      let y = addressed_word i hi ∙ ap (λ (z : Entry). z.word) (entry_here w i v hi e f) in
      counted-entry addressed (i + 1) i hi ∙ (λ t. record { address = x t; word = y t })

  pub appended-drop : drop log_base (appended w i a v) ≡ drop log_base w
  appended-drop =
      drop-sets ((i + 1) ∷ []) addressed entry_count log_base (omega arith)
      ∙ drop-sets (a ∷ []) filled (address_base i) log_base (omega arith)
      ∙ drop-sets (tagged_words v) w (operand_base (limit + i)) log_base (omega arith)

  pub appended-length : length (appended w i a v) ≡ length w
  appended-length =
      length-set addressed entry_count (i + 1) ∙ length-set filled (address_base i) a ∙ length-sets w (operand_base (limit + i)) (tagged_words v)

  appended-count : count_in (appended w i a v) ≡ suc i
  appended-count =
      let q = get_or-set_same addressed entry_count (i + 1) 0 (rw (length-set filled (address_base i) a) (omega (arith, filled-long))) in
      let z : min (i + 1) max_entries ≡ suc i = omega arith in
      ap (λ (x : ℕ). min x max_entries) q ∙ z

  pub appended-state : (n : ℕ) → n ≤ limit → i ≡ count_in w → state_in (appended w i a v) n ≡ with_entry (state_in w n) a v
  appended-state n hn c =
      let k = locations-before ((i + 1) ∷ []) addressed entry_count 0 n (omega arith)
      ∙ locations-before (a ∷ []) filled (address_base i) 0 n (omega arith)
      ∙ locations-before (tagged_words v) w (operand_base (limit + i)) 0 n (omega arith) in
      let z : 0 + i ≡ i = omega arith in
      let old = entries_same (appended w i a v) w 0 i (λ j h. entry_old j (omega arith)) ∙ ap (entries_from w 0) c in
      let new = ap (entry_at (appended w i a v)) z ∙ entry_new in
      let o = ap (entries_from (appended w i a v) 0) appended-count ∙ entries_more (appended w i a v) 0 i ∙ (λ t. old t ++ (new t ∷ [])) in
      λ t. record { inside = k t; outside = o t }

-- and logged as change number k: what it changes is the count
module _ (w : List ℕ) (n k i a : ℕ) (v : Tagged) (hn : n ≤ limit) (hi : i < max_entries) (c : i ≡ count_in w) (hk : change_base k + 6 ≤ length w)
    (e : length v.deps.words ≡ 4) where
  abbrev count : List ℕ
  count = operands ∷ tagged_words (tagged_at w operands)

  abbrev entered : List ℕ
  entered = operand_logged w k operands

  entered_size : length entered ≡ length w
  entered_size = length-sets w (change_base k) count

  entered_long : log_base ≤ length entered
  entered_long = rw entered_size (omega arith)

  entered_state : state_in entered n ≡ state_in w n
  entered_state = state-past count w (change_base k) n hn (omega arith)

  entered_count : i ≡ count_in entered
  entered_count = c ∙ ap (λ (x : ℕ). min x max_entries) (sym (word-before count w (change_base k) entry_count (omega arith)))

  past : drop log_base (extended w k i a v) ≡ drop log_base entered
  past = appended-drop entered i a v hi entered_long e

  pub extended-length : length (extended w k i a v) ≡ length w
  extended-length = appended-length entered i a v hi entered_long e ∙ entered_size

  number_is : number_at (extended w k i a v) k ≡ operands
  number_is = (λ t. numbers_same (extended w k i a v) entered past t k) ∙ number-stored w k operands (tagged_at w operands) hk

  the_entry : change_at (extended w k i a v) k ≡ added i
  the_entry =
      let z : get_or w entry_count 0 ≡ i = omega arith in
      (λ t. log-same (extended w k i a v) entered past t k)
      ∙ change_stored w k operands (tagged_at w operands) refl hk
      ∙ ap added z

  numbers_before : (j : ℕ) → j < k → number_at (extended w k i a v) j ≡ number_at w j
  numbers_before j h =
      (λ t. numbers_same (extended w k i a v) entered past t j)
      ∙ first-same (same-before count w (change_base k) (change_base j) 1 (omega arith)) (lit< tt)

  changes-before : (j : ℕ) → j < k → change_at (extended w k i a v) j ≡ change_at w j
  changes-before j h =
      (λ t. log-same (extended w k i a v) entered past t j) ∙ change_same j (same-before count w (change_base k) (change_base j) 6 (omega arith))

  pub extended-log : LogBound (number_at w) (change_at w) k (count_in w)
      → LogBound (number_at (extended w k i a v)) (change_at (extended w k i a v)) (k + 1) (count_in (extended w k i a v))
  extended-log =
      let more = appended-count entered i a v hi entered_long e in
      log-more w (extended w k i a v) k (rw number_is (le_refl operands))
      (ap (λ (u : Change). count_before u (count_in (extended w k i a v))) the_entry ∙ c)
      (rw more (omega arith)) (λ j h. sym (numbers_before j h)) (λ j h. sym (changes-before j h))

  pub extended-branch : (j : ℕ) → change_base k + 6 ≤ branch_base j → branch_at (extended w k i a v) j ≡ branch_at w j
  extended-branch j h =
      (λ t. branches-same (extended w k i a v) entered past t j)
      ∙ branch_same j (same_after count w (change_base k) (branch_base j) 4 (omega arith))

  pub extended-state : state_in (extended w k i a v) n ≡ with_entry (state_in w n) a v
  extended-state =
      appended-state entered i a v hi entered_long e n hn entered_count ∙ ap (λ (σ : State). with_entry σ a v) entered_state

  pub extended_logged : Logged w (extended w k i a v) n k
  extended_logged = record {
    before = changes-before;
    back = (λ t. revert (the_entry t) (extended-state t))
        ∙ ap (with_outside (state_in w n)) (take_at (table_in w) (record { address = a; word = v } ∷ []) i (entries_length w 0 (count_in w) ∙ sym c));
  }

  pub extended-frame : (m : ℕ) → change_base k + 6 ≤ m → drop m (extended w k i a v) ≡ drop m w
  extended-frame m h =
      drop_past (extended w k i a v) entered log_base m (omega arith) past ∙ drop-sets count w (change_base k) m (omega arith)
