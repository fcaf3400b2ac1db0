-- `LocationSet::single` meets its contract: below the limit one word is set, and from the limit on the set is empty. Assumes nothing.
use mathlib.Core.Path.{sym, ap}
use mathlib.Core.List.{List}
use Prim.Native.Nat.{ℕ, ◌%◌}
use native.Mathlib.Omega.{arith}
use Rattle.location.specs.Sets.{single, only, none}
use Rattle.location.specs.SetLaws.{only_out}
use Rattle.location.proofs.Laws.{word-bit}
use Rattle.location.proofs.LocationSet.single.Goals as goal

pub returns-then-l-lt-LIMIT : goal.returns-then-l-lt-LIMIT
unfolding single only none
returns-then-l-lt-LIMIT c = rw (word-bit (c.args.l.0 % 64) (omega arith))

pub returns-else-l-lt-LIMIT : goal.returns-else-l-lt-LIMIT
unfolding single none
returns-else-l-lt-LIMIT c = sym (ap (λ (ws : List ℕ). record { words = ws }) (only_out 4 c.args.l.0 (omega arith)))
