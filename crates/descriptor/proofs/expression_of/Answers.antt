-- `descriptor::expression_of` meets its contract. Assumes nothing.
use native.Mathlib.Omega.{arith}
use mathlib.Core.Path.{ap, ◌∙◌}
use Prim.Native.Nat.{ℕ}
use Rattle.rules.specs.Rules.JobFile.{expr}
use Rattle.descriptor.specs.Reading.{count_room}
use borrow.Author.Rules.{rules}
use Rattle.descriptor.proofs.expression_of.Goals as goal

pub count_at-requires : goal.count_at-requires
count_at-requires c =
    let h = count_room c.args.p.now c.args.d.at c.requires in
    (omega arith, search rules)

pub expression_at-requires : goal.expression_at-requires
expression_at-requires c = rw c.count_at.ensures c.requires

pub returns : goal.returns
returns c =
    let a = c.args in
    c.expression_at.ensures ∙ ap (λ (k : ℕ). expr a.p.now k) c.count_at.ensures
