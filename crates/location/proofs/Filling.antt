-- A list with an entry for each location, filled by a walk over the members of a set.
-- Assumes nothing.
use mathlib.Core.Path.{◌≡◌, sym, ap, ◌∙◌}
use mathlib.Core.Bool.{true, false}
use mathlib.Core.List.{List}
use Prim.Native.Nat.{ℕ, ◌+◌, ◌-◌, ◌%◌, ◌<◌, ◌≤◌}
use native.Mathlib.Decide.{dec_lt}
use native.Mathlib.Omega.{arith}
use lib.ListN.{length, get_or, set, replicate, length-set, length-replicate, get_or-replicate}
use lib.Seq.{get_or-set_same, get_or-set_other}
use Rattle.location.specs.declared.LocationSet.{LocationSet}
use Rattle.location.specs.Sets.{limit, member, rest}
use Rattle.location.specs.SetLaws.{member-rest}
use Rattle.location.specs.Members.{NoneFrom, IsFirst}

-- Location l is next: the entries below l are f's, the others d. Of a location that is not in set s f is d too, so that its entry need not be stored.
pub record Filled {A : Type 0} (s : LocationSet) (d : A) (f : ℕ → A) (xs : List A) (l : ℕ) : Type 0 where
  pub other : (k : ℕ) → k < limit → member s k ≡ false → f k ≡ d
  pub few : l ≤ limit
  pub size : length xs ≡ limit
  pub passed : (k : ℕ) → k < l → get_or xs k d ≡ f k
  pub later : (k : ℕ) → l ≤ k → k < limit → get_or xs k d ≡ d

pub filled_none : {A : Type 0} (s : LocationSet) (d : A) (f : ℕ → A) → ((k : ℕ) → k < limit → member s k ≡ false → f k ≡ d)
    → Filled s d f (replicate limit d) 0
filled_none s d f other = record {
  other = other;
  few = omega arith;
  size = length-replicate limit d;
  passed = λ k h. absurd (omega arith);
  later = λ k h i. get_or-replicate limit k d d i;
}

module _ {A : Type 0} {s : LocationSet} {d : A} {f : ℕ → A} {xs : List A} {l : ℕ} (h : Filled s d f xs l) where
  -- locations that are not in the set are passed
  past : (m : ℕ) → l ≤ m → m ≤ limit → NoneFrom s l m → Filled s d f xs m
  past m b c none = record {
    other = h.other;
    few = c;
    size = h.size;
    passed = λ k i. go k i (dec_lt k l);
    later = λ k i. h.later k (omega arith);
  }
    where
      go : (k : ℕ) → k < m → Dec (k < l) → get_or xs k d ≡ f k
      go k i (yes q) = h.passed k q
      go k i (no n) = h.later k (omega arith) (omega arith) ∙ sym (h.other k (omega arith) (none.out k (omega arith) i))

  -- no location is left: every entry is f's
  pub filled_all : NoneFrom s l limit → Filled s d f xs limit
  filled_all none = past limit h.few (omega arith) none

  -- the entry of the next location of the set is stored
  pub filled_next : {m : ℕ} → IsFirst s l m → {x : A} → (member s m ≡ true → x ≡ f m) → Filled s d f (set xs m x) (m + 1)
  filled_next {m} next {x} told = record {
    other = h.other;
    few = omega (arith, next.below);
    size = length-set xs m x ∙ h.size;
    passed = λ k i. go k i (dec_lt k m);
    later = λ k i b. get_or-set_other xs m k x d (λ z. absurd (omega arith)) ∙ h.later k (omega (arith, next.from)) b;
  }
    where
      at : Filled s d f xs m
      at = past m next.from (omega (arith, next.below)) next.passed

      go : (k : ℕ) → k < m + 1 → Dec (k < m) → get_or (set xs m x) k d ≡ f k
      go k i (yes q) = get_or-set_other xs m k x d (λ z. absurd (omega arith)) ∙ at.passed k q
      go k i (no n) =
          let z : k ≡ m = omega arith in
          let b : m < length xs = omega (arith, h.size, next.below) in
          rw z (get_or-set_same xs m x d b ∙ told next.is_member)

-- j is the number of location l, and r what is left of its word
module _ {A : Type 0} {s : LocationSet} {d : A} {f : ℕ → A} {xs : List A} {l j r : ℕ} (h : Filled s d f xs l) (next : l < limit) (same : j ≡ l)
    (left : r ≡ rest s j) where
  -- nothing is left of the word: the first location of the next word is next
  pub filled-word : r ≡ 0 → Filled s d f xs (l + (64 - l % 64))
  filled-word e =
      past h (l + (64 - l % 64)) (omega arith) (omega arith)
      (record { out = λ k b c. member-rest s l k (sym (left ∙ ap (rest s) same) ∙ e) b c })
