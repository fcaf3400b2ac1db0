-- `expression::values::value_of` meets its contract. The invariant: the tokens left, over the values in the slots and on top, give the whole value.
-- Assumes nothing.
use Prim.Native.Nat.{◌+◌, ◌-◌}
use Rattle.rules.specs.Rules.Expressions.{eval}
use Rattle.token.specs.Meaning.{tokens_of}
use Rattle.work.specs.Words.{tagged_at}
use Rattle.expression.proofs.Stack.{Left}
use Rattle.expression.proofs.values.value_of.Given as goal

abbrev pub invariant-loop-i : goal.invariant-loop-i
invariant-loop-i l =
    Left (tagged_at l.work) l.p (eval (tagged_at l.work) (tokens_of l.p l.fn.e)).value (l.fn.e.count - l.i) (l.from + l.i) l.held l.top l.stack
