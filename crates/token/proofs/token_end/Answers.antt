-- `token::token_end` meets its contract: where a token can be read, what its byte asks for stands before the end. Assumes nothing.
use mathlib.Core.Path.{sym}
use native.Mathlib.Omega.{arith}
use Rattle.token.specs.Readable.{token-read, constant-read, constant-next, other-next}
use Rattle.token.proofs.token_end.Goals as goal

pub bounds-p-at : goal.bounds-p-at
bounds-p-at c = (token-read c.args.p.now c.args.at c.requires).0

pub overflow_add-result : goal.overflow_add-result
overflow_add-result c =
    let h = (constant-read c.args.p.now c.args.at c.requires c.if-p-at-eq16.true).0 in
    omega arith

pub returns-then-p-at-eq16 : goal.returns-then-p-at-eq16
returns-then-p-at-eq16 c =
    sym (constant-next c.args.p.now c.args.at c.requires c.if-p-at-eq16.true)

pub overflow_add-result-2 : goal.overflow_add-result-2
overflow_add-result-2 c =
    let h = (token-read c.args.p.now c.args.at c.requires).0 in
    omega arith

pub returns : goal.returns
returns c =
    sym (other-next c.args.p.now c.args.at c.requires c.if-p-at-eq16.false)
