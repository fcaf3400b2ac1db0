-- `expression::sets::set_of` meets its contract. The invariant: the tokens left, over the set gathered before them, give the whole set.
-- Assumes nothing.
use Prim.Native.Nat.{◌+◌, ◌-◌}
use Rattle.rules.specs.Rules.Expressions.{expr_set}
use Rattle.token.specs.Meaning.{tokens_of}
use Rattle.work.specs.Words.{set_at}
use Rattle.expression.proofs.Gathering.{SetLeft}
use Rattle.expression.proofs.sets.set_of.Given as goal

abbrev pub invariant-loop-i : goal.invariant-loop-i
invariant-loop-i l = SetLeft (set_at l.work) l.p (expr_set (set_at l.work) (tokens_of l.p l.fn.e)) (l.fn.e.count - l.i) (l.from + l.i) l.deps
