-- `evaluation::with_register` meets its contract. Assumes nothing.
use mathlib.Core.Path.{◌∙◌}
use native.Mathlib.Omega.{arith}
use Rattle.descriptor.specs.Shapes.{register-register_shaped}
use Rattle.work.specs.Words.{tagged_at}
use Rattle.evaluation.proofs.Laws.{value_with_register}
use Rattle.evaluation.proofs.with_register.Goals as goal

pub load_value-x-requires : goal.load_value-x-requires
load_value-x-requires c =
    let h = (register-register_shaped c.requires.1 c.requires.0).below in
    let e = c.register.ensures in
    let s = c.requires.2 in
    omega arith

pub second_of-requires : goal.second_of-requires
second_of-requires c = (register-register_shaped c.requires.1 c.requires.0).room

pub load_value-y-requires : goal.load_value-y-requires
load_value-y-requires c =
    let h = (register-register_shaped c.requires.1 c.requires.0).second in
    let e = c.register-2.ensures in
    let f = c.second_of.ensures in
    let s = c.requires.2 in
    omega arith

pub operator_of-requires : goal.operator_of-requires
operator_of-requires c =
    let h = (register-register_shaped c.requires.1 c.requires.0).operated in
    (h.room, h.known)

pub returns : goal.returns
returns c =
    value_with_register (tagged_at c.args.work.now) (register-register_shaped c.requires.1 c.requires.0).tokens
    c.set_of_two-deps.ensures c.operator_of.ensures c.register.ensures c.load_value-x.ensures
    (c.register-2.ensures ∙ c.second_of.ensures) c.load_value-y.ensures c.operate_two.ensures
