-- The working words after the report of an observed set is recorded.
-- Assumes nothing.
use Rattle.std.specs.Prelude.{◌&&◌, not, cond, List, [], ◌∷◌, ℕ, zero, suc, ◌+◌, ◌/◌, ◌%◌, eqb, set}
use Rattle.location.specs.declared.LocationSet.{LocationSet}
use Rattle.work.specs.Layout.{reports}

-- one word is x where the lowest bit is in s and not in f, and as it was where not
abbrev pub recorded_bit : ℕ → ℕ → ℕ → List ℕ → ℕ → List ℕ
recorded_bit x s f w at = cond (eqb (s % 2) 1 && not (eqb (f % 2) 1)) (set w at x) w

-- n words from one on, each by the next bit
unfoldable pub recorded_bits : ℕ → ℕ → ℕ → List ℕ → ℕ → ℕ → List ℕ
recorded_bits x s f w at zero = w
recorded_bits x s f w at (suc n) = recorded_bits x (s / 2) (f / 2) (recorded_bit x s f w at) (suc at) n

-- by the words of two sets, 64 words for each: the observed one, and D before it
unfoldable pub recorded_from : ℕ → List ℕ → List ℕ → List ℕ → ℕ → List ℕ
recorded_from x [] fs w at = w
recorded_from x (s ∷ ss) [] w at = recorded_from x ss [] (recorded_bits x s 0 w at 64) (at + 64)
recorded_from x (s ∷ ss) (f ∷ fs) w at = recorded_from x ss fs (recorded_bits x s f w at 64) (at + 64)

unfoldable pub recorded : ℕ → LocationSet → LocationSet → List ℕ → List ℕ
recorded x full seen w = recorded_from x seen.words full.words w reports
