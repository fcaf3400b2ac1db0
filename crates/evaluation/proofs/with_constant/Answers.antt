-- `evaluation::with_constant` meets its contract. Assumes nothing.
use mathlib.Core.Path.{refl}
use native.Mathlib.Omega.{arith}
use Rattle.descriptor.specs.Shapes.{register-constant_shaped}
use Rattle.work.specs.Words.{tagged_at}
use Rattle.evaluation.proofs.Laws.{value_with_constant}
use Rattle.evaluation.proofs.with_constant.Goals as goal

pub load_set-deps-requires : goal.load_set-deps-requires
load_set-deps-requires c =
    let h = (register-constant_shaped c.requires.1 c.requires.0).below in
    let e = c.register-register.ensures in
    let s = c.requires.2 in
    omega arith

pub load_value-x-requires : goal.load_value-x-requires
load_value-x-requires c =
    let h = (register-constant_shaped c.requires.1 c.requires.0).below in
    let e = c.register-register.ensures in
    let s = c.requires.2 in
    omega arith

pub constant_of-c-requires : goal.constant_of-c-requires
constant_of-c-requires c =
    (register-constant_shaped c.requires.1 c.requires.0).room

pub operator_of-requires : goal.operator_of-requires
operator_of-requires c =
    let h = (register-constant_shaped c.requires.1 c.requires.0).operated in
    (h.room, h.known)

pub returns : goal.returns
returns c =
    value_with_constant (tagged_at c.args.work.now) refl (register-constant_shaped c.requires.1 c.requires.0).tokens
    c.operator_of.ensures c.register-register.ensures c.load_set-deps.ensures c.load_value-x.ensures
    c.constant_of-c.ensures c.operate_two.ensures
