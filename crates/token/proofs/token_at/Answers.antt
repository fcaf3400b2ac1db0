-- `token::token_at` meets its contract: where a token can be read, what its byte asks for stands before the end. Assumes nothing.
use mathlib.Core.Path.{sym}
use Rattle.token.specs.Readable.{token-read, register-read, constant-read, unary_read, operator-read}
use borrow.Author.Rules.{rules}
use Rattle.token.proofs.token_at.Goals as goal

pub bounds-p-at : goal.bounds-p-at
bounds-p-at c = (token-read c.args.p.now c.args.at c.requires).0

pub overflow_add-next : goal.overflow_add-next
overflow_add-next c = let h = (token-read c.args.p.now c.args.at c.requires).0 in search rules

pub returns-then-byte-lt16 : goal.returns-then-byte-lt16
returns-then-byte-lt16 c =
    sym (register-read c.args.p.now c.args.at c.requires c.if-byte-lt16.true)

pub word-constant-requires : goal.word-constant-requires
word-constant-requires c =
    let h = (constant-read c.args.p.now c.args.at c.requires c.if-byte-eq16.true).0 in search rules

pub overflow_add-result : goal.overflow_add-result
overflow_add-result c =
    let h = (constant-read c.args.p.now c.args.at c.requires c.if-byte-eq16.true).0 in search rules

pub returns-then-byte-eq16 : goal.returns-then-byte-eq16
returns-then-byte-eq16 c =
    rw c.word-constant.ensures (sym (constant-read c.args.p.now c.args.at c.requires c.if-byte-eq16.true).1)

pub returns-then-byte-lt19 : goal.returns-then-byte-lt19
returns-then-byte-lt19 c =
    sym (unary_read c.args.p.now c.args.at c.requires c.if-byte-lt16.false c.if-byte-eq16.false c.if-byte-lt19.true)

pub returns : goal.returns
returns c =
    sym (operator-read c.args.p.now c.args.at c.requires c.if-byte-lt19.false)
