-- How each loop goes on from one location or word to the next, and what the words are when it is done.
-- Assumes nothing.
use mathlib.Core.Path.{◌≡◌, refl, sym, ap, ◌∙◌}
use mathlib.Core.Bool.{Bool, true, false, not, ◌&&◌, ◌||◌, cond}
use mathlib.Core.List.{List, [], ◌∷◌, ◌++◌, append-nil, append_assoc}
use Prim.Native.Nat.{ℕ, zero, suc, zero-le, ◌+◌, ◌-◌, ◌*◌, ◌/◌, ◌%◌, ◌^◌, ◌<◌, ◌≤◌, min}
use native.Mathlib.Numerals.{add-one}
use native.Mathlib.Omega.{arith}
use lib.Dec.{eqb, ltb}
use lib.ListN.{length, drop, set, replicate, length-append, length-drop, length-set, length-replicate}
use lib.Seq.{sets, length-sets, sets-eq, get_or-set_same, take_at, drop-set-add, drop-append-add, drop-drop}
use borrow.Author.Tests.{ltb-true, ltb-false}
use Rattle.location.specs.declared.LocationSet.{LocationSet}
use Rattle.location.specs.Sets.{limit, none, only, single, member}
use Rattle.rules.specs.declared.Tagged.{Tagged}
use Rattle.rules.specs.Rules.Limits.{max_entries}
use Rattle.rules.specs.Rules.Expressions.{tagged}
use Rattle.rules.specs.Rules.Plain.{own_from, first_state, values}
use Rattle.rules.specs.Rules.JobFile.{little, words_at}
use Rattle.rules.specs.Rules.Calls.{padded, entry_words, table_size, table_words, end_words, written}
use Rattle.rules.specs.Rules.Pairs.{alike_from}
use Rattle.work.specs.Layout.{operand_base, entry_count, log_base}
use Rattle.work.specs.Words.{tagged_at, stored, count_in, entry_at, tagged_words}
use Rattle.work.specs.Machines.{locations_from, entries_from, table_in, state_in}
use Rattle.work.proofs.Ranges.{drop-sets}
use Rattle.work.proofs.States.{locations-more, locations-before, entries_length}
use Rattle.rules.proofs.Theorems.Sizes.{values_length, table-length}
use Rattle.transfer.specs.Loads.{StateLoaded}
use Rattle.transfer.specs.Tables.{entry_words_at}

-- ---- a state loaded: the locations before l hold their words, and with the words left they are all of them
pub record Loading (bs : List ℕ) (at n : ℕ) (w w' : List ℕ) (l : ℕ) : Type 0 where
  pub passed : l ≤ n
  pub state : locations_from w' 0 l ++ own_from l (words_at (n - l) bs (at + 8 * l)) ≡ own_from 0 (words_at n bs at)
  pub after : drop (operand_base n) w' ≡ drop (operand_base n) w
  pub size : length w' ≡ length w

pub loading-none : (bs : List ℕ) (at n : ℕ) (w : List ℕ) → Loading bs at n w w 0
loading-none bs at n w =
    let e : n - 0 ≡ n = omega arith in
    let f : at + 8 * 0 ≡ at = omega arith in
    record { passed = zero-le; state = rw (e, f); after = refl; size = refl }

pub single-length : (l : ℕ) → length (single l).words ≡ 4
unfolding single only none
single-length l = length-set (replicate 4 0) (l / 64) (2 ^ (l % 64)) ∙ length-replicate {A = ℕ} 4 0

module _ (bs : List ℕ) (at n : ℕ) (w₀ w w₁ : List ℕ) (l : ℕ) (known : Loading bs at n w₀ w l) where
  pub loading-more : (k x : ℕ) → l < n → n ≤ limit → log_base ≤ length w₀ → k ≡ l → x ≡ little bs (at + 8 * l) 8
      → w₁ ≡ stored w k (tagged x (single k)) → Loading bs at n w₀ w₁ (l + 1)
  unfolding own_from words_at
  loading-more k x h hn f ek ex e =
      let v = tagged (little bs (at + 8 * l) 8) (single l) in
      let vs = tagged_words v in
      let g : w₁ ≡ stored w l v = e ∙ (λ t. stored w (ek t) (tagged (ex t) (single (ek t)))) in
      let four = single-length l in
      let room : operand_base l + 5 ≤ length w = rw known.size (omega arith) in
      let words = words_at (n - (l + 1)) bs (at + 8 * (l + 1)) in
      let left = own_from (suc l) words in
      let held = locations_from w 0 l in
      let e₁ : n - l ≡ suc (n - (l + 1)) = omega arith in
      let e₂ : at + 8 * l + 8 ≡ at + 8 * (l + 1) = omega arith in
      let whole : held ++ (v ∷ left) ≡ own_from 0 (words_at n bs at) = rw (e₁, e₂) at known.state in
      let more : locations_from w₁ 0 (suc l) ++ left ≡ held ++ (v ∷ left) =
      ap (λ (u : List ℕ). locations_from u 0 (suc l) ++ left) g
      ∙ ap (λ (ts : List Tagged). ts ++ left) (locations-more w l v four room)
      ∙ append_assoc held (v ∷ []) left in
      record {
        passed = omega arith;
        state = ap (λ (j : ℕ). locations_from w₁ 0 j ++ own_from j words) (add-one l) ∙ more ∙ whole;
        after = ap (drop (operand_base n)) g ∙ drop-sets vs w (operand_base l) (operand_base n) (omega arith) ∙ known.after;
        size = ap length g ∙ length-sets w (operand_base l) vs ∙ known.size;
      }

-- the count of entries set to 0 in words that are the same from before it on
count_past : (w w' : List ℕ) (n : ℕ) → n ≤ entry_count → drop n w ≡ drop n w' → drop n (set w entry_count 0) ≡ drop n (set w' entry_count 0)
count_past w w' n h d =
    let e : entry_count ≡ n + (entry_count - n) = omega arith in
    ap (λ (k : ℕ). drop n (set w k 0)) e
    ∙ drop-set-add n w (entry_count - n) 0
    ∙ ap (λ (u : List ℕ). set u (entry_count - n) 0) d
    ∙ sym (drop-set-add n w' (entry_count - n) 0)
    ∙ ap (λ (k : ℕ). drop n (set w' k 0)) (sym e)

-- a count of 0 leaves the locations, and no entry
cleared-table : (w : List ℕ) → log_base ≤ length w → table_in (set w entry_count 0) ≡ []
cleared-table w f =
    let g = get_or-set_same w entry_count 0 0 (omega arith) in
    ap (λ (x : ℕ). entries_from (set w entry_count 0) 0 (min x max_entries)) g

pub loading-all : (bs : List ℕ) (at n : ℕ) (w w₁ w' : List ℕ) (l : ℕ) → Loading bs at n w w₁ l → n ≤ l → n ≤ limit → log_base ≤ length w
    → w' ≡ set w₁ entry_count 0 → StateLoaded bs at n w w'
unfolding own_from words_at first_state
loading-all bs at n w w₁ w' l known h hn f e =
    let p : l ≡ n = omega (arith, known.passed) in
    let z : n - l ≡ 0 = omega arith in
    let size = known.size in
    let held : locations_from w₁ 0 l ++ [] ≡ own_from 0 (words_at n bs at) = rw z at known.state in
    let k = locations-before (0 ∷ []) w₁ entry_count 0 n (omega arith)
    ∙ ap (locations_from w₁ 0) (sym p) ∙ sym (append-nil (locations_from w₁ 0 l)) ∙ held in
    let o = cleared-table w₁ (omega arith) in
    record {
      state = ap (λ (u : List ℕ). state_in u n) e ∙ (λ t. record { inside = k t; outside = o t });
      after = ap (drop (operand_base n)) e ∙ count_past w₁ w (operand_base n) (omega arith) known.after;
      size = ap length e ∙ length-set w₁ entry_count 0 ∙ size;
    }

-- ---- values saved: storing the values left gives what storing all of them gives
pub save_more : (w a a₁ : List ℕ) (n l k x : ℕ) → l < n → k ≡ l → x ≡ (tagged_at w k).value → a₁ ≡ set a l x
    → sets a₁ (l + 1) (values (locations_from w (l + 1) (n - (l + 1)))) ≡ sets a l (values (locations_from w l (n - l)))
unfolding values
save_more w a a₁ n l k x h ek ex e =
    let e₁ : n - l ≡ suc (n - (l + 1)) = omega arith in
    let x₁ = ex ∙ ap (λ (j : ℕ). (tagged_at w j).value) ek in
    rw (e₁, add-one) (ap (λ (u : List ℕ). sets u (suc l) (values (locations_from w (suc l) (n - suc l)))) (e ∙ ap (set a l) x₁))

locations-length : (w : List ℕ) (l n : ℕ) → length (locations_from w l n) ≡ n
locations-length w l zero = refl
locations-length w l (suc n) = ap suc (locations-length w (suc l) n)

saved-length : (w : List ℕ) (n : ℕ) → length (values (locations_from w 0 n)) ≡ n
saved-length w n = values_length (locations_from w 0 n) ∙ locations-length w 0 n

pub save_all : (w a : List ℕ) (n : ℕ) → n ≤ length a → sets a 0 (values (locations_from w 0 n)) ≡ written (values (locations_from w 0 n)) a
unfolding written
save_all w a n h =
    let vs = values (locations_from w 0 n) in
    let s = saved-length w n in
    let z : 0 + length vs ≡ length vs = omega arith in
    sets-eq vs a 0 (omega arith) ∙ ap (λ (j : ℕ). vs ++ drop j a) z

-- ---- the table saved: storing the words left gives what storing all of them gives
-- the words of the entries from number i on
abbrev pub entries_left : List ℕ → ℕ → List ℕ
entries_left w i = padded (2 * (max_entries - i)) (entry_words (entries_from w i (count_in w - i)))

-- by whether there is such an entry
entries_next : (w : List ℕ) (i : ℕ) → i < max_entries → entries_left w i ≡ entry_words_at w i ++ entries_left w (i + 1)
unfolding padded entry_words
entries_next w i h = go (ltb i (count_in w)) refl
  where
    rest : 2 * (max_entries - i) ≡ suc (suc (2 * (max_entries - (i + 1))))
    rest = omega arith

    go : (b : Bool) → ltb i (count_in w) ≡ b
        → entries_left w i ≡ cond b (entry_at w i).address 0 ∷ cond b (entry_at w i).word.value 0 ∷ entries_left w (i + 1)
    go true e =
        let m = ltb-true i (count_in w) e in
        let c : count_in w - i ≡ suc (count_in w - (i + 1)) = omega arith in
        rw (rest, c, add-one i)
    go false e =
        let m = ltb-false i (count_in w) e in
        let c : count_in w - i ≡ 0 = omega arith in
        let d : count_in w - (i + 1) ≡ 0 = omega arith in
        rw (rest, c, d)

pub entries_more : (w a a₁ : List ℕ) (n i : ℕ) → i < max_entries → a₁ ≡ sets a (n + 1 + 2 * i) (entry_words_at w i)
    → sets a₁ (n + 1 + 2 * (i + 1)) (entries_left w (i + 1)) ≡ sets a (n + 1 + 2 * i) (entries_left w i)
entries_more w a a₁ n i h e =
    let j = n + 1 + 2 * i in
    let p : n + 1 + 2 * (i + 1) ≡ suc (suc j) = omega arith in
    rw p (ap (λ (u : List ℕ). sets u (suc (suc j)) (entries_left w (i + 1))) e ∙ sym (ap (sets a j) (entries_next w i h)))

-- at first the count is stored
pub entries_all : (w a : List ℕ) (n x : ℕ) → x ≡ count_in w → sets (set a n x) (n + 1 + 2 * 0) (entries_left w 0) ≡ sets a n (table_words (table_in w))
unfolding table_words padded
entries_all w a n x e =
    let c = count_in w in
    let p : n + 1 + 2 * 0 ≡ suc n = omega arith in
    let z : c - 0 ≡ c = omega arith in
    let y : x ≡ length (table_in w) = e ∙ sym (entries_length w 0 c) in
    rw (p, z) (ap (λ (k : ℕ). sets (set a n k) (suc n) (padded (2 * max_entries) (entry_words (table_in w)))) y)

pub entries_none : (w a : List ℕ) (n i : ℕ) → max_entries ≤ i → sets a n (entries_left w i) ≡ a
unfolding padded
entries_none w a n i h = let z : 2 * (max_entries - i) ≡ 0 = omega arith in rw z

-- ---- values, then the table
pub state-saved : (w a a₁ a₂ : List ℕ) (n : ℕ) → n + table_size ≤ length a → a₁ ≡ written (values (state_in w n).inside) a
    → a₂ ≡ sets a₁ n (table_words (table_in w)) → a₂ ≡ written (end_words (state_in w n)) a
unfolding written end_words
state-saved w a a₁ a₂ n h e₁ e₂ =
    let vs = values (locations_from w 0 n) in
    let ts = table_words (table_in w) in
    let s = saved-length w n in
    let t = table-length (table_in w) in
    let rest = drop (length vs) a in
    let r = length-drop (length vs) a in
    let l = length-append vs rest in
    let m = length-append vs ts in
    let p : n + length ts ≡ length vs + length ts = omega arith in
    let q : length vs + length ts ≡ length (vs ++ ts) = omega arith in
    let past : drop (n + length ts) (vs ++ rest) ≡ drop (length (vs ++ ts)) a =
    ap (λ (k : ℕ). drop k (vs ++ rest)) p ∙ drop-append-add vs rest (length ts) ∙ drop-drop (length ts) (length vs) a ∙ ap (λ (k : ℕ). drop k a) q in
    e₂ ∙ ap (λ (u : List ℕ). sets u n ts) e₁
    ∙ sets-eq ts (vs ++ rest) n (omega arith)
    ∙ ap (λ (u : List ℕ). u ++ ts ++ drop (n + length ts) (vs ++ rest)) (take_at vs rest n s)
    ∙ ap (λ (u : List ℕ). vs ++ ts ++ u) past

-- ---- two states compared: the first word left, and then the others
pub alike-step : (public : LocationSet) (first second : List ℕ) (at n l : ℕ) → l < n
    → alike_from public l (words_at (n - l) first (at + 8 * l)) (words_at (n - l) second (8 * l))
    ≡ ((not (member public l) || eqb (little first (at + 8 * l) 8) (little second (8 * l) 8))
    && alike_from public (l + 1) (words_at (n - (l + 1)) first (at + 8 * (l + 1))) (words_at (n - (l + 1)) second (8 * (l + 1))))
unfolding alike_from words_at
alike-step public first second at n l h =
    let e : n - l ≡ suc (n - (l + 1)) = omega arith in
    let e₁ : at + 8 * (l + 1) ≡ at + 8 * l + 8 = omega arith in
    let e₂ : 8 * (l + 1) ≡ 8 * l + 8 = omega arith in
    rw (e, e₁, e₂, add-one)
