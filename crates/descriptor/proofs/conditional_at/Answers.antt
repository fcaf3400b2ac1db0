-- `descriptor::conditional_at` meets its contract: the fields stand where the rules read them. Assumes nothing.
use mathlib.Core.Path.{sym}
use Rattle.token.specs.Meaning.{tokens_of}
use Rattle.instruction.specs.Fields.{conditional-parts}
use borrow.Author.Rules.{rules}
use Rattle.descriptor.proofs.conditional_at.Goals as goal

pub bounds-p-at : goal.bounds-p-at
bounds-p-at c = let a = c.args in (conditional-parts a.p.now a.at c.requires.0).room

pub overflow_add-at : goal.overflow_add-at
overflow_add-at c = let a = c.args in let h = (conditional-parts a.p.now a.at c.requires.0).room in search rules

pub expression_at-c-requires : goal.expression_at-c-requires
expression_at-c-requires c = let a = c.args in (conditional-parts a.p.now a.at c.requires.0).condition

pub expression_at-e-requires : goal.expression_at-e-requires
expression_at-e-requires c =
    let a = c.args in
    rw c.requires.1 (conditional-parts a.p.now a.at c.requires.0).expression

pub returns : goal.returns
unfolding tokens_of
returns c =
    let a = c.args in
    rw (c.expression_at-e.ensures, c.requires.1, c.expression_at-c.ensures)
    (sym (conditional-parts a.p.now a.at c.requires.0).value)
