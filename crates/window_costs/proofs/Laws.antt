-- A table of costs by the test of each entry.
-- Assumes nothing.
use mathlib.Core.Path.{◌≡◌, refl, ap}
use mathlib.Core.Bool.{Bool, false, ◌&&◌}
use mathlib.Core.List.{List, [], ◌∷◌}
use Prim.{⊥}
use Prim.Native.Nat.{ℕ}
use borrow.Author.Tests.{ne_eqb, eq-eqb}
use lib.Dec.{leb}
use lib.ListN.{length}
use Rattle.std.specs.List.{list_all}
use Rattle.rules.specs.Rules.Limits.{kinds, min_cost, max_cost}
use Rattle.rules.specs.Rules.Costs.{entries_fit, costs_fit}

abbrev pub entry_fits : ℕ → Bool
entry_fits c = leb min_cost c && leb c max_cost

every : (cs : List ℕ) → list_all entry_fits cs ≡ entries_fit cs
unfolding entries_fit
every [] = refl
every (c ∷ cs) = ap (λ (b : Bool). entry_fits c && b) (every cs)

pub kinds_tested : (cs : List ℕ) → length cs ≡ kinds → list_all entry_fits cs ≡ costs_fit cs
unfolding costs_fit
kinds_tested cs h = rw (eq-eqb (length cs) kinds h) (every cs)

-- a table of another length does not fit
pub other_length : (cs : List ℕ) → (length cs ≡ kinds → ⊥) → false ≡ costs_fit cs
unfolding costs_fit
other_length cs h = rw (ne_eqb (length cs) kinds h)
