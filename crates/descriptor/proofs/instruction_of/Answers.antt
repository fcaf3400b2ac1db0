-- `descriptor::instruction_of` meets its contract, by the shape. Assumes nothing.
use mathlib.Core.Path.{sym, ap, ◌∙◌}
use Prim.Native.Nat.{ℕ}
use Rattle.rules.specs.Rules.Instructions.{beqz}
use Rattle.descriptor.specs.Reading.{branch-shaped, standing-shaped, nothing-shaped}
use Rattle.descriptor.specs.Shapes.{jump-constant_shaped, jump-kind}
use Rattle.descriptor.proofs.Laws.{jump-read}
use borrow.Author.Rules.{rules}
use Rattle.descriptor.proofs.instruction_of.Goals as goal

pub returns-then-shape-eq-NOTHING : goal.returns-then-shape-eq-NOTHING
returns-then-shape-eq-NOTHING c =
    c.bare.ensures c.args.p.now ∙ sym (nothing-shaped c.requires c.if-shape-eq-NOTHING.true).0

pub returns-then-shape-eq-BRANCH : goal.returns-then-shape-eq-BRANCH
returns-then-shape-eq-BRANCH c =
    ap (λ (l : ℕ). beqz c.args.d.first l) c.new.ensures ∙ sym (branch-shaped c.requires c.if-shape-eq-BRANCH.true)

pub overflow_add-d : goal.overflow_add-d
overflow_add-d c =
    let r = (jump-constant_shaped c.requires c.if-shape-eq-JUMP_CONSTANT.true).room in
    search rules

pub jump_at-requires : goal.jump_at-requires
jump_at-requires c =
    let a = c.args in
    let w = (standing-shaped c.requires c.if-shape-eq-NOTHING.false c.if-shape-eq-BRANCH.false).0 in
    (jump-read a.p.now a.d.at w.read (jump-kind c.requires c.if-shape-eq-JUMP_CONSTANT.true)).0

pub returns-then-shape-eq-JUMP_CONSTANT : goal.returns-then-shape-eq-JUMP_CONSTANT
returns-then-shape-eq-JUMP_CONSTANT c =
    let a = c.args in
    let w = standing-shaped c.requires c.if-shape-eq-NOTHING.false c.if-shape-eq-BRANCH.false in
    c.jump_at.ensures ∙ (jump-read a.p.now a.d.at w.0.read (jump-kind c.requires c.if-shape-eq-JUMP_CONSTANT.true)).1 ∙ sym w.1

pub instruction_at-requires : goal.instruction_at-requires
instruction_at-requires c =
    ((standing-shaped c.requires c.if-shape-eq-NOTHING.false c.if-shape-eq-BRANCH.false).0, c.requires.second c.if-shape-eq-NOTHING.false c.if-shape-eq-BRANCH.false)

pub returns : goal.returns
returns c =
    c.instruction_at.ensures ∙ sym (standing-shaped c.requires c.if-shape-eq-NOTHING.false c.if-shape-eq-BRANCH.false).1
