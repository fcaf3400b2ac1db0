-- The observations that the words of a trace stand for, and the lines of an answer with such a trace.
-- Assumes nothing.
use Rattle.std.specs.Prelude.{cond, List, [], ◌∷◌, ℕ, zero, suc}
use Rattle.location.specs.declared.LocationSet.{LocationSet}
use Rattle.location.specs.Sets.{member}
use Rattle.rules.specs.declared.First.{First}
use Rattle.rules.specs.declared.RunAnswer.{RunAnswer}
use Rattle.rules.specs.Rules.Instructions.{Observation, observed}
use Rattle.rules.specs.Rules.Demands.{observation_count}
use Rattle.rules.specs.Rules.Listing.{location_text, first_line, answer_lines}

-- the first k observations of these words, or as many as there are
unfoldable pub observations_in : ℕ → List ℕ → List Observation
observations_in zero ws = []
observations_in (suc k) [] = []
observations_in (suc k) (x ∷ []) = []
observations_in (suc k) (x ∷ v ∷ ws) = observed x v ∷ observations_in k ws

-- what is printed of a location in the line of a set
abbrev pub member_text : LocationSet → ℕ → List ℕ
member_text s l = cond (member s l) (location_text l) []

-- what is printed of a location in the lines after the verdict, where D is the set
abbrev pub report_text : LocationSet → ℕ → First → List ℕ
report_text s l x = cond (member s l) (first_line l x) []

-- the lines of an answer whose trace stands at the front of these words
unfoldable pub printed : ℕ → RunAnswer → List ℕ → List ℕ
printed n a trace = answer_lines n (observations_in (observation_count a.outcome) trace) a
