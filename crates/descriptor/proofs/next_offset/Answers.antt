-- `descriptor::next_offset` meets its contract, by the kind byte. Assumes nothing.
use mathlib.Core.Path.{sym, ap, ◌∙◌}
use Prim.Native.Nat.{ℕ}
use Rattle.rules.specs.Rules.JobFile.{expr}
use Rattle.rules.specs.Theorems.Readers.{next_offset}
use Rattle.instruction.specs.Fields.{instr-read}
use Rattle.descriptor.proofs.Extents.{skip-next, barrier_next, branch-next, jump-next, conditional-next, with_register-next}
use borrow.Author.Rules.{rules}
use Rattle.descriptor.proofs.next_offset.Goals as goal

pub bounds-p-at : goal.bounds-p-at
bounds-p-at c = instr-read c.args.p.now c.args.at c.requires

pub overflow_add-result : goal.overflow_add-result
overflow_add-result c =
    let h = instr-read c.args.p.now c.args.at c.requires in search rules

pub overflow_add-at : goal.overflow_add-at
overflow_add-at c =
    let h = instr-read c.args.p.now c.args.at c.requires in search rules

pub expression_end-requires : goal.expression_end-requires
expression_end-requires c =
    (jump-next c.args.p.now c.args.at c.requires c.in-4.is).0

pub overflow_add-result-in-5 : goal.overflow_add-result-in-5
overflow_add-result-in-5 c =
    let h = (branch-next c.args.p.now c.args.at c.requires c.in-5.is).0 in search rules

pub overflow_add-at-in-6 : goal.overflow_add-at-in-6
overflow_add-at-in-6 c =
    let h = instr-read c.args.p.now c.args.at c.requires in search rules

pub expression_end-second-requires : goal.expression_end-second-requires
expression_end-second-requires c =
    (conditional-next c.args.p.now c.args.at c.requires c.in-6.is).0

pub expression_end-requires-in-6 : goal.expression_end-requires-in-6
expression_end-requires-in-6 c =
    rw c.expression_end-second.ensures (conditional-next c.args.p.now c.args.at c.requires c.in-6.is).1

pub overflow_add-result-in-7 : goal.overflow_add-result-in-7
overflow_add-result-in-7 c =
    let h = instr-read c.args.p.now c.args.at c.requires in search rules

pub overflow_add-at-in_default : goal.overflow_add-at-in_default
overflow_add-at-in_default c =
    let h = instr-read c.args.p.now c.args.at c.requires in search rules

pub expression_end-requires-in_default : goal.expression_end-requires-in_default
expression_end-requires-in_default c =
    let m = c.in_default.in_default-own.rest in
    (with_register-next c.args.p.now c.args.at c.requires m.0.0.0.0.1 m.0.0.0.1 m.0.0.1 m.0.1 m.1).0

pub returns-in-0 : goal.returns-in-0
returns-in-0 c =
    sym (skip-next c.args.p.now c.args.at c.requires c.in-0.is)

pub returns-in-4 : goal.returns-in-4
returns-in-4 c =
    c.expression_end.ensures ∙ sym (jump-next c.args.p.now c.args.at c.requires c.in-4.is).1

pub returns-in-5 : goal.returns-in-5
returns-in-5 c =
    sym (branch-next c.args.p.now c.args.at c.requires c.in-5.is).1

pub returns-in-6 : goal.returns-in-6
returns-in-6 c =
    let p = c.args.p.now in
    c.expression_end-in-6.ensures ∙ ap (λ (q : ℕ). next_offset (expr p q)) c.expression_end-second.ensures
    ∙ sym (conditional-next p c.args.at c.requires c.in-6.is).2

pub returns-in-7 : goal.returns-in-7
returns-in-7 c =
    sym (barrier_next c.args.p.now c.args.at c.requires c.in-7.is)

pub returns-in_default : goal.returns-in_default
returns-in_default c =
    let m = c.in_default.in_default-own.rest in
    c.expression_end-in_default.ensures
    ∙ sym (with_register-next c.args.p.now c.args.at c.requires m.0.0.0.0.1 m.0.0.0.1 m.0.0.1 m.0.1 m.1).1
