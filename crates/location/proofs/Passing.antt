-- Passing the locations that are not in a set, word by word: at is the next place, and r what is left of its word.
-- Assumes nothing.
use mathlib.Core.Path.{◌≡◌, sym, ◌∙◌}
use mathlib.Core.Logic.{◌≢◌}
use mathlib.Core.Bool.{false}
use Prim.Native.Nat.{ℕ, ◌+◌, ◌-◌, ◌%◌, ◌<◌, ◌≤◌}
use native.Mathlib.Decide.{dec_lt}
use native.Mathlib.Omega.{arith}
use borrow.Author.Tests.{eq-eqb, ne_eqb}
use Rattle.location.specs.declared.LocationSet.{LocationSet}
use Rattle.location.specs.Sets.{limit, member, rest}
use Rattle.location.specs.SetLaws.{member_low, member-rest}
use Rattle.location.specs.Members.{NoneFrom, IsFirst}

-- none up to one place, and none from there on
none_joined : {s : LocationSet} {l m n : ℕ} → NoneFrom s l m → NoneFrom s m n → NoneFrom s l n
none_joined {s} {l} {m} {n} p q = record { out = λ k a b. go k a b (dec_lt k m) }
  where
    go : (k : ℕ) → l ≤ k → k < n → Dec (k < m) → member s k ≡ false
    go k a b (yes y) = p.out k a y
    go k a b (no x) = q.out k (omega arith) b

module _ {s : LocationSet} {l at r : ℕ} (before : NoneFrom s l at) (left : r ≡ rest s at) where
  -- nothing is left of the word: the first location of the next word is next
  pub word-passed : r ≡ 0 → NoneFrom s l (at + (64 - at % 64))
  word-passed e = none_joined before (record { out = λ k a b. member-rest s at k (sym left ∙ e) a b })

  pub one_passed : r % 2 ≢ 1 → NoneFrom s l (at + 1)
  one_passed e = none_joined before (record { out = outside })
    where
      outside : (k : ℕ) → at ≤ k → k < at + 1 → member s k ≡ false
      outside k a b =
          let z : k ≡ at = omega arith in
          rw (z, member_low s at, ← left) (ne_eqb (r % 2) 1 e)

  pub first_found : l ≤ at → at < limit → r % 2 ≡ 1 → IsFirst s l at
  first_found a b e = record {
    from = a;
    below = b;
    is_member = rw (member_low s at, ← left) (eq-eqb (r % 2) 1 e);
    passed = before;
  }
