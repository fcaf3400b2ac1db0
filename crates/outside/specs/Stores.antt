-- What a store outside the image promises.
-- Assumes nothing.
use Rattle.std.specs.Prelude.{◌≡◌, true, false, List, ℕ, ◌+◌, Option, None, IsSomeAnd}
use Rattle.rules.specs.declared.Tagged.{Tagged}
use Rattle.rules.specs.Rules.Outside.{remember, overfull}
use Rattle.rules.specs.Rules.Plain.{with_outside}
use Rattle.work.specs.declared.machine.Control.{Control}
use Rattle.work.specs.Machines.{table_in}
use Rattle.work.specs.Moves.{Moves, ordinary_next}

-- A store of v at the address a: it is made, and the machine remembers it, unless it needs one address too many; then nothing changes, and there is no
-- control after it.
pub record StoreTried (w w' : List ℕ) (c : Control) (r : Option Control) (a : ℕ) (v : Tagged) (remaining : ℕ) : Type 0 where
  pub made : overfull (table_in w) a ≡ false
      → IsSomeAnd r (λ x. Moves w w' c x (λ M. ordinary_next M (with_outside M.state (remember M.state.outside a v)) (c.place + 1) remaining))
  pub unmade : overfull (table_in w) a ≡ true → (r ≡ None) × (w' ≡ w)
