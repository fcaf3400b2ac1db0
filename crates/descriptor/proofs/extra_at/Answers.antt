-- `descriptor::extra_at` meets its contract, by the kind byte. Assumes nothing.
use mathlib.Core.Path.{sym, ◌∙◌}
use native.Mathlib.Omega.{arith}
use Rattle.instruction.specs.Fields.{instr-read}
use Rattle.token.specs.Readable.{expr-read}
use Rattle.descriptor.specs.Reading.{second_said}
use Rattle.descriptor.proofs.Extents.{branch-next, conditional-next}
use Rattle.descriptor.proofs.Laws.{label_extra, target_extra, no_extra}
use borrow.Author.Rules.{rules}
use Rattle.descriptor.proofs.extra_at.Goals as goal

pub bounds-p-at : goal.bounds-p-at
bounds-p-at c = instr-read c.args.p.now c.args.at c.requires.0

pub overflow_add-at : goal.overflow_add-at
overflow_add-at c =
    let h = (branch-next c.args.p.now c.args.at c.requires.0 c.in-5.is).0 in
    search rules

pub two_bytes-requires : goal.two_bytes-requires
two_bytes-requires c =
    let h = (branch-next c.args.p.now c.args.at c.requires.0 c.in-5.is).0 in
    search rules

pub overflow_add-at-in-6 : goal.overflow_add-at-in-6
overflow_add-at-in-6 c =
    let h = instr-read c.args.p.now c.args.at c.requires.0 in
    search rules

pub expression_end-requires : goal.expression_end-requires
expression_end-requires c =
    (conditional-next c.args.p.now c.args.at c.requires.0 c.in-6.is).0

pub returns-in-4 : goal.returns-in-4
returns-in-4 c =
    (c.target_at.ensures.0 ∙ target_extra c.args.p.now c.args.at c.in-4.is, c.target_at.ensures.1)

pub returns-in-5 : goal.returns-in-5
returns-in-5 c =
    let n = c.two_bytes.ensures.1 in
    (c.two_bytes.ensures.0 ∙ label_extra c.args.p.now c.args.at c.in-5.is, omega arith)

pub returns-in-6 : goal.returns-in-6
returns-in-6 c =
    let e = c.expression_end.ensures in
    let l = (expr-read _ _ (conditional-next c.args.p.now c.args.at c.requires.0 c.in-6.is).1).0 in
    let most = c.requires.1 in
    (e ∙ sym (second_said c.args.p.now c.args.at c.in-6.is), rw e (omega arith))

pub returns-in_default : goal.returns-in_default
returns-in_default c =
    let m = c.in_default.in_default-own.rest in
    (no_extra c.args.p.now c.args.at m.0.0.1 m.0.1 m.1, omega arith)
