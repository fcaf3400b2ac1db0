-- `expression::evaluate` meets its contract: the set that was gathered is the value's, whatever the registers hold. Assumes nothing.
use Prim.Native.Nat.{ℕ}
use Rattle.rules.proofs.Theorems.SetsFirst.{tagged-equal}
use Rattle.work.specs.Words.{tagged_at}
use Rattle.expression.proofs.Gathering.{sound-readable}
use Rattle.expression.proofs.evaluate.Goals as goal

pub set_of-requires : goal.set_of-requires
set_of-requires c =
    let a = c.args in
    (sound-readable a.p.now a.e c.requires.0, c.requires.1)

pub returns : goal.returns
returns c =
    let values : ℕ → ℕ = λ r. (tagged_at c.args.work.now r).value in
    tagged-equal c.value_of.ensures (c.set_of.ensures.whatever c.requires.0 values)
