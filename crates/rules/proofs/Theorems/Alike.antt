-- Two states side by side: "Two states are alike in a set of locations when the register or cell at each of them holds the same
-- word in both". What lasts of this through the two runs is the relation Alike: where the set of a word lies within D, in either
-- run, both runs hold the same word with the same set. The sets of other words may differ.
-- Assumes nothing.
use Rattle.std.specs.Prelude.{◌≡◌, Bool, ◌&&◌, ℕ, suc, ◌<◌, ◌≤◌, ltb}
use Rattle.std.proofs.Math.Path.{refl, sym, ap}
use Rattle.std.proofs.Common.{ap₂, ◌∙◌, true≢false}
use Rattle.std.proofs.Math.Bool.{true, false, not, cond}
use mathlib.Core.List.{List, [], ◌∷◌}
use Rattle.std.proofs.Math.Decide.{ℕ_discrete, dec_lt}
use native.Mathlib.Omega.{arith}
use Rattle.std.proofs.Math.Dec.{eqb, leb}
use Rattle.std.proofs.Math.ListN.{length, length-set}
use Rattle.std.proofs.Math.Seq.{get_or-set_same, get_or-set_other, set_out}
use Rattle.location.specs.declared.LocationSet.{LocationSet}
use Rattle.location.specs.Sets.{cell_location, empty}
use Rattle.location.specs.SetLaws.{Within, union-within_left, union-within_right}
use Rattle.rules.specs.declared.Tagged.{Tagged}
use Rattle.rules.specs.Rules.Operators.{Op1, Op2}
use Rattle.rules.specs.Rules.Expressions.{Token, reg, const, op1, op2, Expr, tagged, result1, result2, pushed, eval_on, top, eval}
use Rattle.rules.specs.Rules.Limits.{max_entries}
use Rattle.rules.specs.Rules.Outside.{recall, remember, remembers, overfull}
use Rattle.rules.specs.Rules.Plain.{State, Entry, at, put, with_outside, Code, joined, loaded_from, stored_to, store_overfull, chosen}

-- two words with their sets are equal if the set of either lies within D
pub record Agree (D : LocationSet) (a b : Tagged) : Type 0 where
  pub left : Within a.deps D → a ≡ b
  pub right : Within b.deps D → a ≡ b

-- two tables with the same addresses in the same order, whose words agree
pub data AlikeOutside (D : LocationSet) : List Entry → List Entry → Type 0 where
  none : AlikeOutside D [] []
  more : {e f : Entry} {es fs : List Entry} → e.address ≡ f.address → Agree D e.word f.word → AlikeOutside D es fs
      → AlikeOutside D (e ∷ es) (f ∷ fs)

-- two states of the same length that agree at each location and outside the image
pub record Alike (D : LocationSet) (σ τ : State) : Type 0 where
  pub lengths : length σ.inside ≡ length τ.inside
  pub here : (l : ℕ) → Agree D (at σ l) (at τ l)
  pub outside : AlikeOutside D σ.outside τ.outside

-- two stacks of operands that agree one by one
data Paired (D : LocationSet) : List Tagged → List Tagged → Type 0 where
  none : Paired D [] []
  both : {a b : Tagged} {xs ys : List Tagged} → Agree D a b → Paired D xs ys → Paired D (a ∷ xs) (b ∷ ys)

module _ {D : LocationSet} where
  pub agree_refl : (a : Tagged) → Agree D a a
  agree_refl a = record { left = λ w. refl; right = λ w. refl }

  -- ---- expressions: "an operator's result has the union of its operands' sets"
  agree1 : (o : Op1) {a b : Tagged} → Agree D a b → Agree D (result1 o a) (result1 o b)
  agree1 o h = record { left = λ w. ap (result1 o) (h.left w); right = λ w. ap (result1 o) (h.right w) }

  agree2 : (o : Op2) {a b a' b' : Tagged} → Agree D a a' → Agree D b b' → Agree D (result2 o a b) (result2 o a' b')
  agree2 o {a} {b} {a'} {b'} h k = record {
    left = λ w.
        ap₂ (result2 o) (h.left (union-within_left a.deps b.deps w)) (k.left (union-within_right a.deps b.deps w));
    right = λ w.
        ap₂ (result2 o) (h.right (union-within_left a'.deps b'.deps w))
        (k.right (union-within_right a'.deps b'.deps w));
  }

  module _ (f g : ℕ → Tagged) (same : (r : ℕ) → Agree D (f r) (g r)) where
    paired_pushed : (t : Token) {xs ys : List Tagged} → Paired D xs ys → Paired D (pushed f t xs) (pushed g t ys)
    unfolding pushed
    paired_pushed (reg r) p = both (same r) p
    paired_pushed (const c) p = both (agree_refl (tagged c empty)) p
    paired_pushed (op1 o) none = none
    paired_pushed (op1 o) (both h p) = both (agree1 o h) p
    paired_pushed (op2 o) none = none
    paired_pushed (op2 o) (both h none) = none
    paired_pushed (op2 o) (both h (both k p)) = both (agree2 o k h) p

    paired_eval_on : (e : Expr) {xs ys : List Tagged} → Paired D xs ys → Paired D (eval_on f e xs) (eval_on g e ys)
    unfolding eval_on
    paired_eval_on [] p = p
    paired_eval_on (t ∷ e) p = paired_eval_on e (paired_pushed t p)

    agree_top : {xs ys : List Tagged} → Paired D xs ys → Agree D (top xs) (top ys)
    unfolding top
    agree_top none = agree_refl (tagged 0 empty)
    agree_top (both h p) = h

    pub agree_eval : (e : Expr) → Agree D (eval f e) (eval g e)
    unfolding eval
    agree_eval e = agree_top (paired_eval_on e none)

  -- a set joined to both words
  pub agree_joined : {a b : Tagged} (s : LocationSet) → Agree D a b → Agree D (joined a s) (joined b s)
  agree_joined {a} {b} s h = record {
    left = λ w. ap (λ (t : Tagged). joined t s) (h.left (union-within_right s a.deps w));
    right = λ w. ap (λ (t : Tagged). joined t s) (h.right (union-within_right s b.deps w));
  }

  -- ---- a conditional assignment: the condition's set is in the result's either way
  chosen_deps : (c new old : Tagged) → Within (chosen c new old).deps D → Within c.deps D
  unfolding chosen
  chosen_deps c new old = go (eqb c.value 0)
    where
      go : (b : Bool) → Within (cond b (joined old c.deps) (joined new c.deps)).deps D → Within c.deps D
      go true w = union-within_left c.deps old.deps w
      go false w = union-within_left c.deps new.deps w

  agree_cond : (b : Bool) (s : LocationSet) {x y x' y' : Tagged} → Agree D x x' → Agree D y y'
      → Agree D (cond b (joined x s) (joined y s)) (cond b (joined x' s) (joined y' s))
  agree_cond true s h k = agree_joined s h
  agree_cond false s h k = agree_joined s k

  pub agree_chosen : {c c' new new' old old' : Tagged} → Agree D c c' → Agree D new new' → Agree D old old'
      → Agree D (chosen c new old) (chosen c' new' old')
  unfolding chosen
  agree_chosen {c} {c'} {new} {new'} {old} {old'} h k m = record {
    left = λ w. rw (← h.left (chosen_deps c new old w)) ((agree_cond (eqb c.value 0) c.deps m k).left w);
    right = λ w. rw (h.right (chosen_deps c' new' old' w)) ((agree_cond (eqb c'.value 0) c'.deps m k).right w);
  }

  -- ---- states
  pub alike-put : {σ τ : State} {a b : Tagged} (l : ℕ) → Alike D σ τ → Agree D a b → Alike D (put σ l a) (put τ l b)
  unfolding put at
  alike-put {σ} {τ} {a} {b} l h k = record {
    lengths = length-set σ.inside l a ∙ h.lengths ∙ sym (length-set τ.inside l b);
    here = λ i. go i (ℕ_discrete i l) (dec_lt l (length σ.inside));
    outside = h.outside;
  }
    where
      go : (i : ℕ) → Dec (i ≡ l) → Dec (l < length σ.inside) → Agree D (at (put σ l a) i) (at (put τ l b) i)
      go i (no n) d = rw (get_or-set_other σ.inside l i a (tagged 0 empty) n, get_or-set_other τ.inside l i b (tagged 0 empty) n) (h.here i)
      go i (yes e) (yes lt) =
          let lt' : l < length τ.inside = rw h.lengths at lt in
          rw (e, get_or-set_same σ.inside l a (tagged 0 empty) lt, get_or-set_same τ.inside l b (tagged 0 empty) lt') k
      go i (yes e) (no nlt) =
          let m = h.lengths in
          let le : length σ.inside ≤ l = omega arith in
          let le' : length τ.inside ≤ l = omega arith in
          rw (set_out σ.inside l a le, set_out τ.inside l b le') (h.here i)

  -- ---- tables
  agree_recall : {es fs : List Entry} (a : ℕ) → AlikeOutside D es fs → Agree D (recall (tagged 0 empty) es a) (recall (tagged 0 empty) fs a)
  unfolding recall
  agree_recall a none = agree_refl (tagged 0 empty)
  agree_recall a (more {e} {f} {es} {fs} p k h) =
      go (eqb e.address a) (eqb f.address a) (ap (λ (x : ℕ). eqb x a) p) (agree_recall a h)
    where
      go : (b c : Bool) → b ≡ c → Agree D (recall (tagged 0 empty) es a) (recall (tagged 0 empty) fs a)
          → Agree D (cond b e.word (recall (tagged 0 empty) es a)) (cond c f.word (recall (tagged 0 empty) fs a))
      go true true q r = k
      go false false q r = r
      go true false q r = absurd (true≢false q)
      go false true q r = absurd (true≢false (sym q))

  alike-remember : {es fs : List Entry} {t u : Tagged} (a : ℕ) → AlikeOutside D es fs → Agree D t u
      → AlikeOutside D (remember es a t) (remember fs a u)
  unfolding remember
  alike-remember a none k = more refl k none
  alike-remember {t = t} {u = u} a (more {e} {f} {es} {fs} p m h) k =
      go (eqb e.address a) (eqb f.address a) (ap (λ (x : ℕ). eqb x a) p) (alike-remember a h k)
    where
      go : (b c : Bool) → b ≡ c → AlikeOutside D (remember es a t) (remember fs a u)
          → AlikeOutside D (cond b (record { address = e.address; word = t } ∷ es) (e ∷ remember es a t))
          (cond c (record { address = f.address; word = u } ∷ fs) (f ∷ remember fs a u))
      go true true q r = more p k h
      go false false q r = more p m r
      go true false q r = absurd (true≢false q)
      go false true q r = absurd (true≢false (sym q))

  same-remembers : {es fs : List Entry} (a : ℕ) → AlikeOutside D es fs → remembers es a ≡ remembers fs a
  unfolding remembers
  same-remembers a none = refl
  same-remembers a (more p k h) = λ i. cond (eqb (p i) a) true (same-remembers a h i)

  pub same_count : {es fs : List Entry} → AlikeOutside D es fs → length es ≡ length fs
  same_count none = refl
  same_count (more p k h) = ap suc (same_count h)

  same-overfull : {es fs : List Entry} (a : ℕ) → AlikeOutside D es fs → overfull es a ≡ overfull fs a
  unfolding overfull
  same-overfull a h = λ i. leb max_entries (same_count h i) && not (same-remembers a h i)

  module _ (code : Code) {σ τ : State} (h : Alike D σ τ) where
    pub same-store_overfull : (a : Tagged) → store_overfull code σ a ≡ store_overfull code τ a
    unfolding store_overfull
    same-store_overfull a = ap (cond (ltb a.value code.cells) false) (same-overfull a.value h.outside)

    -- ---- "A load gives the union of the address's set and the cell's (no cell: the address's)"
    pub agree_loaded_from : (a : Tagged) → Agree D (loaded_from code σ a) (loaded_from code τ a)
    unfolding loaded_from
    agree_loaded_from a = go (ltb a.value code.cells)
      where
        go : (b : Bool)
            → Agree D
            (cond b (joined (at σ (cell_location a.value)) a.deps) (joined (recall (tagged 0 empty) σ.outside a.value) a.deps))
            (cond b (joined (at τ (cell_location a.value)) a.deps) (joined (recall (tagged 0 empty) τ.outside a.value) a.deps))
        go true = agree_joined a.deps (h.here (cell_location a.value))
        go false = agree_joined a.deps (agree_recall a.value h.outside)

    -- ---- "a store gives the union of the address's and the register's"
    pub alike-stored_to : (a : Tagged) {t u : Tagged} → Agree D t u → Alike D (stored_to code σ a t) (stored_to code τ a u)
    unfolding stored_to
    alike-stored_to a {t} {u} k = go (ltb a.value code.cells)
      where
        go : (b : Bool)
            → Alike D
            (cond b (put σ (cell_location a.value) (joined t a.deps))
            (with_outside σ (remember σ.outside a.value (joined t a.deps))))
            (cond b (put τ (cell_location a.value) (joined u a.deps))
            (with_outside τ (remember τ.outside a.value (joined u a.deps))))
        go true = alike-put (cell_location a.value) h (agree_joined a.deps k)
        go false = record {
          lengths = h.lengths;
          here = unfold at in h.here;
          outside = alike-remember a.value h.outside (agree_joined a.deps k);
        }
