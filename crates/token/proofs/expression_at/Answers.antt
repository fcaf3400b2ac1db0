-- `token::expression_at` meets its contract: where an expression can be read, its count stands before the end. Assumes nothing.
use mathlib.Core.Path.{sym}
use Rattle.token.specs.Readable.{expr-read}
use borrow.Author.Rules.{rules}
use Rattle.token.proofs.expression_at.Goals as goal

pub bounds-p-at : goal.bounds-p-at
bounds-p-at c = let a = c.args in (expr-read a.p.now a.at c.requires).0

pub overflow_add-result : goal.overflow_add-result
overflow_add-result c =
    let a = c.args in let h = (expr-read a.p.now a.at c.requires).0 in search rules

pub returns : goal.returns
returns c =
    let a = c.args in rw c.from-count.ensures (sym (expr-read a.p.now a.at c.requires).1)
