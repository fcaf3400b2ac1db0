-- `evaluation::one_value` meets its contract: the token is a register or a constant. Assumes nothing.
use native.Mathlib.Omega.{arith}
use Rattle.rules.proofs.Theorems.SetsFirst.{tagged-equal}
use Rattle.evaluation.proofs.Laws.{value-register, value-constant, one-read, one-register, one-constant}
use borrow.Author.Rules.{rules}
use Rattle.evaluation.proofs.one_value.Goals as goal

pub bounds-p-at : goal.bounds-p-at
bounds-p-at c =
    let a = c.args in
    (one-read a.p.now a.e c.requires.0 c.requires.1).0

pub load-requires : goal.load-requires
load-requires c =
    let e = c.register.ensures in
    let s = c.requires.2 in
    omega arith

pub returns-then-byte-lt16 : goal.returns-then-byte-lt16
returns-then-byte-lt16 c =
    let a = c.args in
    value-register _ (one-register a.p.now a.e c.requires.0 c.requires.1 c.if-byte-lt16.true) c.register.ensures
    c.load.ensures

pub overflow_add-at : goal.overflow_add-at
overflow_add-at c =
    let a = c.args in
    let h = (one-constant a.p.now a.e c.requires.0 c.requires.1 c.if-byte-lt16.false).0 in
    search rules

pub word-requires : goal.word-requires
word-requires c =
    let a = c.args in
    let h = (one-constant a.p.now a.e c.requires.0 c.requires.1 c.if-byte-lt16.false).0 in
    omega arith

pub returns : goal.returns
returns c =
    let a = c.args in
    value-constant _ (one-constant a.p.now a.e c.requires.0 c.requires.1 c.if-byte-lt16.false).1
    (tagged-equal c.word.ensures c.empty.ensures)
