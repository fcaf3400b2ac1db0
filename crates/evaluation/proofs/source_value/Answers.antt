-- `evaluation::source_value` meets its contract, by the shape. Assumes nothing.
use mathlib.Core.Path.{ap}
use native.Mathlib.Omega.{arith}
use Rattle.location.specs.declared.LocationSet.{LocationSet}
use Rattle.rules.specs.Rules.Expressions.{tagged}
use Rattle.descriptor.specs.Reading.{nothing-shaped, general_shaped}
use Rattle.descriptor.specs.Shapes.{register-shaped, constant-shaped, jump-constant_shaped, tested-shaped}
use Rattle.evaluation.proofs.Laws.{value-nothing, value-register, value-constant}
use Rattle.evaluation.proofs.source_value.Goals as goal

pub load-requires : goal.load-requires
load-requires c =
    let h = (register-shaped c.requires.0 c.in-1.is).below in
    let e = c.register.ensures in
    let s = c.requires.1 in
    omega arith

pub constant_value-requires : goal.constant_value-requires
constant_value-requires c = (constant-shaped c.requires.0 c.in-2.is).room

pub with_constant-requires : goal.with_constant-requires
with_constant-requires c = (c.in-3.is, c.requires.0, c.requires.1)

pub with_register-requires : goal.with_register-requires
with_register-requires c = (c.in-4.is, c.requires.0, c.requires.1)

pub constant_value-requires-in-5 : goal.constant_value-requires-in-5
constant_value-requires-in-5 c = (jump-constant_shaped c.requires.0 c.in-5.is).room

pub load-requires-in-6 : goal.load-requires-in-6
load-requires-in-6 c =
    let h = (tested-shaped c.requires.0 c.in-6.is).below in
    let e = c.register-in-6.ensures in
    let s = c.requires.1 in
    omega arith

pub general_value-requires : goal.general_value-requires
general_value-requires c =
    let h = c.in_default.in_default-own.rest in
    let v = c.requires.0 in
    (v, general_shaped v h.0.0.0.0.0.0.1 h.0.0.0.0.0.1 h.0.0.0.0.1 h.0.0.0.1 h.0.0.1 h.0.1 h.1, c.requires.1)

pub returns-in-0 : goal.returns-in-0
returns-in-0 c =
    value-nothing _ (nothing-shaped c.requires.0 c.in-0.is).1 (ap (λ (s : LocationSet). tagged 0 s) c.empty.ensures)

pub returns-in-1 : goal.returns-in-1
returns-in-1 c =
    value-register _ (register-shaped c.requires.0 c.in-1.is).tokens c.register.ensures c.load.ensures

pub returns-in-2 : goal.returns-in-2
returns-in-2 c =
    value-constant _ (constant-shaped c.requires.0 c.in-2.is).tokens c.constant_value.ensures

pub returns-in-5 : goal.returns-in-5
returns-in-5 c =
    value-constant _ (jump-constant_shaped c.requires.0 c.in-5.is).tokens c.constant_value-in-5.ensures

pub returns-in-6 : goal.returns-in-6
returns-in-6 c =
    value-register _ (tested-shaped c.requires.0 c.in-6.is).tokens c.register-in-6.ensures c.load-in-6.ensures
