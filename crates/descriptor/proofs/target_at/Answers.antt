-- `descriptor::target_at` meets its contract: the constant of a jump to one stands in the bytes. Assumes nothing.
use mathlib.Core.Path.{sym, ap, ◌∙◌}
use native.Mathlib.Omega.{arith}
use Prim.Native.Nat.{ℕ, min}
use native.Mathlib.Nat.{min-eq_left, min-eq_right}
use borrow.Author.Tests.{ne_eqb}
use Rattle.token.specs.Readable.{expr-read}
use Rattle.descriptor.specs.Descriptors.{shape_jump_constant, farthest}
use Rattle.descriptor.specs.Reading.{jump_said}
use Rattle.descriptor.proofs.Extents.{jump-next}
use Rattle.descriptor.proofs.Laws.{jump-shape}
use borrow.Author.Rules.{rules}
use Rattle.descriptor.proofs.target_at.Goals as goal

pub overflow_add-at : goal.overflow_add-at
overflow_add-at c =
    let a = c.args in
    let h = (expr-read _ _ (jump-next a.p.now a.at c.requires.0 c.requires.1).0).0 in
    search rules

pub shape_of_jump-requires : goal.shape_of_jump-requires
shape_of_jump-requires c =
    let a = c.args in
    let h = (expr-read _ _ (jump-next a.p.now a.at c.requires.0 c.requires.1).0).0 in
    search rules

pub returns-then-shape_of_jump-ne-JUMP_CONSTANT : goal.returns-then-shape_of_jump-ne-JUMP_CONSTANT
returns-then-shape_of_jump-ne-JUMP_CONSTANT c =
    (rw (← c.shape_of_jump.ensures, ne_eqb _ shape_jump_constant c.if-shape_of_jump-ne-JUMP_CONSTANT.true), omega arith)

pub overflow_add-at-2 : goal.overflow_add-at-2
overflow_add-at-2 c =
    let a = c.args in
    let e = sym c.shape_of_jump.ensures ∙ c.if-shape_of_jump-ne-JUMP_CONSTANT.false in
    let room = (jump_said a.p.now a.at c.requires.0 (sym (jump-shape a.p.now a.at c.requires.1) ∙ e)).0 in
    search rules

pub word-constant-requires : goal.word-constant-requires
word-constant-requires c =
    let a = c.args in
    let e = sym c.shape_of_jump.ensures ∙ c.if-shape_of_jump-ne-JUMP_CONSTANT.false in
    let room = (jump_said a.p.now a.at c.requires.0 (sym (jump-shape a.p.now a.at c.requires.1) ∙ e)).0 in
    omega arith

pub returns-then-constant-lt-FARTHEST : goal.returns-then-constant-lt-FARTHEST
returns-then-constant-lt-FARTHEST c =
    let e = sym c.shape_of_jump.ensures ∙ c.if-shape_of_jump-ne-JUMP_CONSTANT.false in
    let n = c.if-constant-lt-FARTHEST.true in
    let w = c.word-constant.ensures in
    (sym (rw e (ap (λ (v : ℕ). min v farthest) (sym w) ∙ min-eq_left (omega arith))), omega arith)

pub returns : goal.returns
returns c =
    let e = sym c.shape_of_jump.ensures ∙ c.if-shape_of_jump-ne-JUMP_CONSTANT.false in
    let n = c.if-constant-lt-FARTHEST.false in
    let w = c.word-constant.ensures in
    (sym (rw e (ap (λ (v : ℕ). min v farthest) (sym w) ∙ min-eq_right (omega arith))), omega arith)
