-- `descriptor::word_at` meets its contract. Assumes nothing.
use native.Mathlib.Omega.{arith}
use Rattle.instruction.specs.Fields.{instr-read}
use Rattle.descriptor.specs.Descriptors.{word_at}
use borrow.Author.Rules.{rules}
use Rattle.descriptor.proofs.word_at.Goals as goal

pub shape_at-shape-requires : goal.shape_at-shape-requires
shape_at-shape-requires c =
    let h = instr-read c.args.p.now c.args.at c.requires.0 in
    let l = c.requires.1 in
    omega arith

pub first_at-first-requires : goal.first_at-first-requires
first_at-first-requires c =
    let h = instr-read c.args.p.now c.args.at c.requires.0 in
    let l = c.requires.1 in
    omega arith

pub overflow_add-result-3 : goal.overflow_add-result-3
overflow_add-result-3 c =
    let h = instr-read c.args.p.now c.args.at c.requires.0 in
    let l = c.requires.1 in
    search rules

pub returns : goal.returns
unfolding word_at
returns c =
    rw (← c.shape_at-shape.ensures, ← c.first_at-first.ensures, ← c.extra_at-extra.ensures.0) (omega arith)
