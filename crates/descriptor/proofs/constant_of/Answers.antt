-- `descriptor::constant_of` meets its contract. Assumes nothing.
use mathlib.Core.Path.{ap, ◌∙◌}
use Prim.Native.Nat.{ℕ, ◌+◌}
use Rattle.rules.specs.Rules.JobFile.{little}
use Rattle.descriptor.proofs.constant_of.Goals as goal

pub returns : goal.returns
returns c =
    let a = c.args in
    c.word.ensures ∙ ap (λ (k : ℕ). little a.p.now (a.d.at + k) 8) c.constant_place-place.ensures.0
