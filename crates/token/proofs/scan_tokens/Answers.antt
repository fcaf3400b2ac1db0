-- `token::scan_tokens` meets its contract. The invariant: scanning the tokens left, from the values held now, is the whole scan.
-- Assumes nothing.
use mathlib.Core.Path.{◌≡◌, sym, ◌∙◌}
use Prim.Native.Nat.{suc, ◌+◌, ◌-◌}
use native.Mathlib.Omega.{arith}
use Rattle.std.proofs.lemmas.Result.{err_from_is_err_and}
use Rattle.rules.specs.Rules.JobFile.{tokens}
use Rattle.rules.specs.Rules.Expressions.{held}
use Rattle.token.proofs.Laws.{tokens-got, tokens-refused}
use Rattle.token.proofs.scan_tokens.Goals as goal

pub loop-preserved : goal.loop-preserved
loop-preserved c =
    let a = c.args in
    let v = c.loop in
    let e : a.count - v.counter ≡ suc (a.count - (v.counter + 1)) = omega arith in
    let t = rw c.in_ok-read.was at c.read_token.ensures in
    rw (c.held_after-held.ensures, c.taken.ensures) (sym (tokens-got _ a.p.now v.next v.held _ _ t) ∙ (rw e at v.invariant))

pub returns-in_err-read : goal.returns-in_err-read
returns-in_err-read c =
    let a = c.args in
    let v = c.loop in
    let e : a.count - v.counter ≡ suc (a.count - (v.counter + 1)) = omega arith in
    let t = rw c.in_err-read.was at c.read_token.ensures in
    let r = err_from_is_err_and c.from_residual.result c.from_residual.ensures.1 in
    rw (r.1, r.2) (sym (tokens-refused _ a.p.now v.next v.held _ t) ∙ (rw e at v.invariant))

pub returns : goal.returns
unfolding tokens held
returns c = let v = c.loop in let a = c.args in let e : a.count - v.counter ≡ 0 = omega arith in rw e at v.invariant
