-- `descriptor::instruction_at` meets its contract, by the kind byte. Assumes nothing.
use mathlib.Core.Path.{◌≡◌, refl}
use Rattle.rules.specs.Rules.Instructions.{assign, load, store}
use Prim.Native.Nat.{◌+◌}
use native.Mathlib.Omega.{arith}
use Rattle.rules.specs.Rules.JobFile.{fields}
use Rattle.instruction.specs.Fields.{instr-kind, instr-read, with_parts}
use Rattle.descriptor.proofs.Laws.{conditional-read, kind_six}
use borrow.Author.Rules.{rules}
use Rattle.descriptor.proofs.instruction_at.Goals as goal

pub bounds-p-at : goal.bounds-p-at
bounds-p-at c = instr-read c.args.p.now c.args.at c.requires.0.read

pub overflow_add-next : goal.overflow_add-next
overflow_add-next c = let h = instr-read c.args.p.now c.args.at c.requires.0.read in search rules

pub with_register_at-requires : goal.with_register_at-requires
unfolding fields
with_register_at-requires c =
    let a = c.args in
    let r = rw (instr-kind a.p.now a.at 1 (instr-read a.p.now a.at c.requires.0.read) c.in-1.is) at c.requires.0.read in
    let w = with_parts assign a.p.now (a.at + 1) r in
    record { callable = search rules; stands = (w.room, w.expression) }

pub with_register_at-requires-in-2 : goal.with_register_at-requires-in-2
unfolding fields
with_register_at-requires-in-2 c =
    let a = c.args in
    let r = rw (instr-kind a.p.now a.at 2 (instr-read a.p.now a.at c.requires.0.read) c.in-2.is) at c.requires.0.read in
    let w = with_parts load a.p.now (a.at + 1) r in
    record { callable = search rules; stands = (w.room, w.expression) }

pub with_register_at-requires-in-3 : goal.with_register_at-requires-in-3
unfolding fields
with_register_at-requires-in-3 c =
    let a = c.args in
    let r = rw (instr-kind a.p.now a.at 3 (instr-read a.p.now a.at c.requires.0.read) c.in-3.is) at c.requires.0.read in
    let w = with_parts store a.p.now (a.at + 1) r in
    record { callable = search rules; stands = (w.room, w.expression) }

pub jump_at-requires : goal.jump_at-requires
unfolding fields
jump_at-requires c =
    let a = c.args in
    rw (instr-kind a.p.now a.at 4 (instr-read a.p.now a.at c.requires.0.read) c.in-4.is) at c.requires.0.read

pub conditional_at-requires : goal.conditional_at-requires
conditional_at-requires c =
    let a = c.args in
    let k = kind_six a.p.now a.at c.requires.0 (omega arith) (omega arith) (omega arith) (omega arith) in
    let z : a.at + 1 + 1 ≡ a.at + 2 = omega arith in
    (conditional-read a.p.now a.at c.requires.0.read k, rw z (c.requires.1 k))

pub returns-in-1 : goal.returns-in-1
unfolding fields
returns-in-1 c =
    let a = c.args in
    let i = instr-kind a.p.now a.at 1 (instr-read a.p.now a.at c.requires.0.read) c.in-1.is in
    rw i (c.with_register_at.ensures assign (record { means = λ r e i m. search rules; tested = λ r e. refl }) (rw i at c.requires.0.read))

pub returns-in-2 : goal.returns-in-2
unfolding fields
returns-in-2 c =
    let a = c.args in
    let i = instr-kind a.p.now a.at 2 (instr-read a.p.now a.at c.requires.0.read) c.in-2.is in
    rw i (c.with_register_at-in-2.ensures load (record { means = λ r e i m. search rules; tested = λ r e. refl }) (rw i at c.requires.0.read))

pub returns-in-3 : goal.returns-in-3
unfolding fields
returns-in-3 c =
    let a = c.args in
    let i = instr-kind a.p.now a.at 3 (instr-read a.p.now a.at c.requires.0.read) c.in-3.is in
    rw i (c.with_register_at-in-3.ensures store (record { means = λ r e i m. search rules; tested = λ r e. refl }) (rw i at c.requires.0.read))

pub returns-in-4 : goal.returns-in-4
unfolding fields
returns-in-4 c =
    let a = c.args in
    rw (instr-kind a.p.now a.at 4 (instr-read a.p.now a.at c.requires.0.read) c.in-4.is) c.jump_at.ensures

pub returns-in_default : goal.returns-in_default
unfolding fields
returns-in_default c =
    let a = c.args in
    let k = kind_six a.p.now a.at c.requires.0 (omega arith) (omega arith) (omega arith) (omega arith) in
    rw (instr-kind a.p.now a.at 6 (instr-read a.p.now a.at c.requires.0.read) k) c.conditional_at.ensures
