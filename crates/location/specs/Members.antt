-- The members of a set, one after the other.
-- Assumes nothing.
use Rattle.std.specs.Prelude.{◌≡◌, true, false, ℕ, ◌+◌, ◌<◌, ◌≤◌, Option, MatchOption}
use Rattle.location.specs.declared.Location.{Location}
use Rattle.location.specs.declared.LocationSet.{LocationSet}
use Rattle.location.specs.declared.Members.{Members}
use Rattle.location.specs.Sets.{limit, member}

-- no location of the set is from l up to m, which is not counted
pub record NoneFrom (s : LocationSet) (l m : ℕ) : Type 0 where
  pub out : (k : ℕ) → l ≤ k → k < m → member s k ≡ false

-- m is the first location of the set from l on
pub record IsFirst (s : LocationSet) (l m : ℕ) : Type 0 where
  pub from : l ≤ m
  pub below : m < limit
  pub is_member : member s m ≡ true
  pub passed : NoneFrom s l m

-- the first location of the set from l on, if there is one
abbrev pub IsFirstFrom : LocationSet → ℕ → Option Location → Type 0
IsFirstFrom s l r = MatchOption r (NoneFrom s l limit) (λ m. IsFirst s l m.0)

-- a call of `next` gives the first location of the set from the place on, and the place is behind it; the set stays
abbrev pub GivesMember : Members → Option Location → Members → Type 0
GivesMember a r b = (b.set ≡ a.set) × MatchOption r (NoneFrom a.set a.next limit × (b.next ≡ a.next)) (λ m. IsFirst a.set a.next m.0 × (b.next ≡ m.0 + 1))
