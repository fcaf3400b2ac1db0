-- `evaluation::set_of_two` meets its contract. Assumes nothing.
use mathlib.Core.Path.{refl, ◌∙◌}
use native.Mathlib.Omega.{arith}
use Rattle.rules.proofs.Theorems.SetsFirst.{set-promise}
use Rattle.descriptor.specs.Shapes.{register-register_shaped}
use Rattle.work.specs.Words.{set_at}
use Rattle.evaluation.proofs.Laws.{two-gathered}
use Rattle.evaluation.proofs.set_of_two.Goals as goal

pub load_set-left-requires : goal.load_set-left-requires
load_set-left-requires c =
    let h = (register-register_shaped c.requires.1 c.requires.0).below in
    let e = c.register.ensures in
    let s = c.requires.2 in
    omega arith

pub second_of-requires : goal.second_of-requires
second_of-requires c = (register-register_shaped c.requires.1 c.requires.0).room

pub load_set-right-requires : goal.load_set-right-requires
load_set-right-requires c =
    let h = (register-register_shaped c.requires.1 c.requires.0).second in
    let e = c.register-2.ensures in
    let f = c.second_of.ensures in
    let s = c.requires.2 in
    omega arith

pub returns : goal.returns
returns c =
    let sets = set_at c.args.work.now in
    set-promise sets (λ r. refl) _
    (two-gathered sets _ refl (register-register_shaped c.requires.1 c.requires.0).tokens c.register.ensures
    c.load_set-left.ensures (c.register-2.ensures ∙ c.second_of.ensures) c.load_set-right.ensures
    c.union.ensures)
