-- Demand 2: "striking out all from each outermost start to its rollback".
-- Assumes nothing.
use Rattle.std.specs.Prelude.{◌&&◌, cond, List, [], ◌∷◌, ℕ, eqb}
use Rattle.rules.specs.Rules.Instructions.{Observation, start_kind, rollback_kind}

unfoldable mutual
  pub strike : List Observation → List Observation
  strike [] = []
  strike (o ∷ os) = cond (eqb o.kind start_kind) (strike_to os o.value) (o ∷ strike os)

  -- what follows the rollback of branch i, struck in its turn
  pub strike_to : List Observation → ℕ → List Observation
  strike_to [] i = []
  strike_to (o ∷ os) i = cond (eqb o.kind rollback_kind && eqb o.value i) (strike os) (strike_to os i)
