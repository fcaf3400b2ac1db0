-- How the entries of the table are gone through for an address.
-- Assumes nothing.
use mathlib.Core.Path.{◌≡◌, refl, sym, ap, ◌∙◌}
use mathlib.Core.Bool.{Bool, true, false, not, ◌&&◌, true≢false}
use mathlib.Core.List.{List}
use Rattle.std.proofs.Common.{Option, None, Some, MatchOption}
use Rattle.std.specs.Option.{is_some}
use Prim.Native.Nat.{ℕ, suc, ◌+◌, ◌-◌, ◌<◌, ◌≤◌}
use native.Mathlib.Numerals.{add-one}
use native.Mathlib.Omega.{arith}
use lib.Dec.{leb}
use lib.ListN.{length}
use borrow.Author.Tests.{eq-eqb, ne_eqb, le-leb, lt-leb}
use Rattle.rules.specs.declared.Tagged.{Tagged}
use Rattle.rules.specs.Rules.Limits.{max_entries}
use Rattle.rules.specs.Rules.Outside.{remember, remembers, overfull}
use Rattle.rules.specs.Rules.Plain.{Entry, with_outside}
use Rattle.rules.specs.Rules.Changes.{position, reworded}
use Rattle.rules.proofs.Theorems.Outside.{remember-replaced, remember-added}
use Rattle.work.specs.declared.machine.Control.{Control}
use Rattle.work.specs.Words.{count_in, entry_at}
use Rattle.work.specs.Machines.{entries_from, table_in, machine_of, with_entry}
use Rattle.work.specs.Moves.{ordinary_next, Moves}
use Rattle.outside.specs.Stores.{StoreTried}
use Rattle.work.proofs.States.{entries_length}
use Rattle.outside.specs.Positions.{Found, there, nowhere, found}

-- ---- the entries from number i on, of n in all
module _ (w : List ℕ) (i n a : ℕ) where
  -- the first of them has the address
  pub found_here : i < n → (entry_at w i).address ≡ a → position (entries_from w i (n - i)) a ≡ 0
  unfolding position
  found_here h e = let s : n - i ≡ suc (n - (i + 1)) = omega arith in rw (s, position, eq-eqb (entry_at w i).address a e)

  -- or it is among the others
  pub found-later : i < n → ((entry_at w i).address ≡ a → ⊥)
      → i + position (entries_from w i (n - i)) a ≡ i + 1 + position (entries_from w (i + 1) (n - (i + 1))) a
  unfolding position
  found-later h e =
      let s : n - i ≡ suc (n - (i + 1)) = omega arith in
      let p = position (entries_from w (suc i) (n - (i + 1))) a in
      let z : i + suc p ≡ i + 1 + p = omega arith in
      let t = ap (λ (j : ℕ). i + 1 + position (entries_from w j (n - (i + 1))) a) (sym (add-one i)) in
      rw (s, position, ne_eqb (entry_at w i).address a e) (z ∙ t)

  -- or there is none
  pub found_none : n ≤ i → position (entries_from w i (n - i)) a ≡ 0
  unfolding position
  found_none h = let s : n - i ≡ 0 = omega arith in rw (s, position)

-- ---- by the number that was found, p
module _ (w : List ℕ) (a p : ℕ) (e : p ≡ position (table_in w) a) where
  size : length (table_in w) ≡ count_in w
  size = entries_length w 0 (count_in w)

  pub remembered-there : p < count_in w → remembers (table_in w) a ≡ true
  remembered-there h = go (found (table_in w) a)
    where
      go : Found (table_in w) a → remembers (table_in w) a ≡ true
      go (there r l) = r
      go (nowhere r l) = absurd (let s = size in omega arith)

  pub remembered-nowhere : count_in w ≤ p → remembers (table_in w) a ≡ false
  remembered-nowhere h = go (found (table_in w) a)
    where
      go : Found (table_in w) a → remembers (table_in w) a ≡ false
      go (there r l) = absurd (let s = size in omega arith)
      go (nowhere r l) = r

-- ---- whether one address too many is needed
module _ (w : List ℕ) (a : ℕ) where
  pub room-left : count_in w < max_entries → overfull (table_in w) a ≡ false
  unfolding overfull
  room-left h = let s = entries_length w 0 (count_in w) in rw (s, lt-leb max_entries (count_in w) h)

  remembered-fits : remembers (table_in w) a ≡ true → overfull (table_in w) a ≡ false
  unfolding overfull
  remembered-fits r = rw r (go (leb max_entries (length (table_in w))))
    where
      go : (b : Bool) → (b && false) ≡ false
      go true = refl
      go false = refl

  no_room : max_entries ≤ count_in w → remembers (table_in w) a ≡ false → overfull (table_in w) a ≡ true
  unfolding overfull
  no_room h r = let s = entries_length w 0 (count_in w) in rw (s, le-leb max_entries (count_in w) h, r)

  -- a table that is full, by the number that was found
  pub full-there : (p : ℕ) → p ≡ position (table_in w) a → p < count_in w → overfull (table_in w) a ≡ false
  full-there p e h = remembered-fits (remembered-there w a p e h)

  pub full-nowhere : (p : ℕ) → p ≡ position (table_in w) a → max_entries ≤ count_in w → count_in w ≤ p → overfull (table_in w) a ≡ true
  full-nowhere p e m h = no_room m (remembered-nowhere w a p e h)

  -- whether no number was found, of the k that there are
  pub overfull-by : {k : ℕ} (b : Bool) (r : Option ℕ) → is_some r ≡ not b
      → MatchOption r (position (table_in w) a ≡ k) (λ i. (i ≡ position (table_in w) a) × (i < k))
      → k ≡ count_in w → max_entries ≤ k → b ≡ overfull (table_in w) a
  overfull-by true None n h e m = sym (full-nowhere (position (table_in w) a) refl (omega arith) (omega arith))
  overfull-by false None n h e m = absurd (true≢false (sym n))
  overfull-by true (Some i) n h e m = absurd (true≢false n)
  overfull-by false (Some i) n h e m = sym (full-there i h.0 (let l = h.1 in omega arith))

-- ---- the moves of a store
-- the state of each machine has the table of the words
module _ {w w₁ : List ℕ} {c r : Control} {p v : ℕ} (a : ℕ) (x : Tagged) where
  pub replaced_move : (i : ℕ) → i ≡ position (table_in w) a → remembers (table_in w) a ≡ true
      → Moves w w₁ c r (λ M. ordinary_next M (with_outside M.state (reworded M.state.outside i x)) p v)
      → Moves w w₁ c r (λ M. ordinary_next M (with_outside M.state (remember M.state.outside a x)) p v)
  replaced_move i e h m = record {
    machine = λ n hn.
        m.machine n hn
        ∙ ap (λ (es : List Entry). ordinary_next (machine_of w c n) (with_outside (machine_of w c n).state es) p v)
        (ap (λ (j : ℕ). reworded (table_in w) j x) e ∙ sym (remember-replaced (table_in w) a x h));
    fits = m.fits;
    frame = m.frame;
  }

  pub added_move : remembers (table_in w) a ≡ false → Moves w w₁ c r (λ M. ordinary_next M (with_entry M.state a x) p v)
      → Moves w w₁ c r (λ M. ordinary_next M (with_outside M.state (remember M.state.outside a x)) p v)
  added_move h m = record {
    machine = λ n hn.
        m.machine n hn
        ∙ ap (λ (es : List Entry). ordinary_next (machine_of w c n) (with_outside (machine_of w c n).state es) p v)
        (sym (remember-added (table_in w) a x h));
    fits = m.fits;
    frame = m.frame;
  }

-- ---- what a store promises, by what the code has found: p is the number of the address a, and k how many entries there are
module _ {w : List ℕ} {c : Control} {a p k v : ℕ} {x : Tagged} (e : p ≡ position (table_in w) a) (ek : k ≡ count_in w) where
  pub tried-replaced : {w₁ : List ℕ} {r : Control} → p < k
      → Moves w w₁ c r (λ M. ordinary_next M (with_outside M.state (reworded M.state.outside p x)) (c.place + 1) v)
      → StoreTried w w₁ c (Some r) a x v
  tried-replaced h m =
      let l : p < count_in w = omega arith in
      record {
        made = λ o. replaced_move a x p e (remembered-there w a p e l) m;
        unmade = λ o. absurd (true≢false (sym o ∙ full-there w a p e l));
      }

  pub tried-added : {w₁ : List ℕ} {r : Control} → p ≡ k → k < max_entries
      → Moves w w₁ c r (λ M. ordinary_next M (with_entry M.state a x) (c.place + 1) v)
      → StoreTried w w₁ c (Some r) a x v
  tried-added h l m =
      let h' : count_in w ≤ p = omega arith in
      let l' : count_in w < max_entries = omega arith in
      record {
        made = λ o. added_move a x (remembered-nowhere w a p e h') m;
        unmade = λ o. absurd (true≢false (sym o ∙ room-left w a l'));
      }

  pub tried-full : p ≡ k → max_entries ≤ k → StoreTried w w c None a x v
  tried-full h l =
      let h' : count_in w ≤ p = omega arith in
      let l' : max_entries ≤ count_in w = omega arith in
      record {
        made = λ o. absurd (true≢false (sym (full-nowhere w a p e l' h') ∙ o));
        unmade = λ o. (refl, refl);
      }
