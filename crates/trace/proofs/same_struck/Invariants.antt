-- `trace::same_struck` meets its contract. The invariant: both traces stand at an observation that is not struck out, and those
-- passed are equal, so the answer is that of the observations left. Assumes nothing.
use mathlib.Core.Path.{◌≡◌}
use lib.ListN.{length}
use Rattle.rules.specs.Rules.Pairs.{same_words}
use Rattle.trace.specs.Struck.{struck_words, Outside}
use Rattle.trace.proofs.same_struck.Given as goal

abbrev pub invariant-loop-one : goal.invariant-loop-one
invariant-loop-one l = Outside l.one l.one × Outside l.other l.other
    × (same_words (struck_words l.one) (struck_words l.other) ≡ same_words (struck_words l.a) (struck_words l.b))

abbrev pub decreases-loop-one : goal.decreases-loop-one
decreases-loop-one l = length l.one
