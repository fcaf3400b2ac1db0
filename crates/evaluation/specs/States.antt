-- The values of expressions in the state that the working words hold.
-- Assumes nothing.
use Rattle.std.specs.Prelude.{◌≡◌, List, ℕ, ◌+◌}
use Rattle.std.proofs.Common.{arith}
use Rattle.location.specs.Sets.{registers}
use Rattle.rules.specs.Rules.Expressions.{eval}
use Rattle.rules.specs.Rules.Plain.{at}
use Rattle.token.specs.declared.Expression.{Expression}
use Rattle.token.specs.Meaning.{tokens_of}
use Rattle.work.specs.Words.{tagged_at}
use Rattle.work.specs.Machines.{state_in}
use Rattle.work.proofs.States.{state-at}
use Rattle.expression.specs.Registers.{expression_agree}

-- an expression has the same value over the words as in the state
pub state-value : (w : List ℕ) (cells : ℕ) (p : List ℕ) (e : Expression)
    → eval (at (state_in w (registers + cells))) (tokens_of p e) ≡ eval (tagged_at w) (tokens_of p e)
state-value w cells p e =
    expression_agree (at (state_in w (registers + cells))) (tagged_at w) p e (λ r h. state-at w (registers + cells) r (omega arith))
