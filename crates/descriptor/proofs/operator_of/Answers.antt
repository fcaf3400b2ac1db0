-- `descriptor::operator_of` meets its contract. Assumes nothing.
use mathlib.Core.Path.{ap}
use Prim.Native.Nat.{ℕ, ◌+◌, ◌-◌}
use lib.ListN.{get_or}
use Rattle.descriptor.proofs.operator_of.Goals as goal

pub overflow_sub-result : goal.overflow_sub-result
overflow_sub-result c =
    rw c.operator_place-place.ensures.0 c.requires.1

pub returns : goal.returns
returns c =
    let a = c.args in
    ap (λ (k : ℕ). get_or a.p.now (a.d.at + k) 0 - 19) c.operator_place-place.ensures.0
