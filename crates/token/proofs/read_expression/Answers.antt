-- `token::read_expression` meets its contract, by the tests on the token count; the scan gives the rest. Assumes nothing.
use mathlib.Core.Path.{sym, ap, ◌∙◌}
use Prim.Native.Nat.{ℕ, ◌+◌}
use lib.Dec.{eqb}
use Rattle.std.proofs.Common.{arith}
use Rattle.std.proofs.lemmas.Result.{err_from_is_err_and}
use Rattle.std.proofs.lemmas.Bool.Decides.{nat_tests}
use Rattle.rules.specs.Rules.Expressions.{sound}
use Rattle.rules.specs.Rules.JobFile.{tokens, expr}
use Rattle.token.specs.Bytes.{byte-got, byte_past}
use Rattle.token.proofs.Laws.{expr-tokens, expr_refused, scan_got, scan_held, scan_refused}
use Rattle.token.specs.Meaning.{tokens_of}
use Rattle.token.proofs.read_expression.Goals as goal

pub returns-then-p-at : goal.returns-then-p-at
unfolding expr
returns-then-p-at c = let a = c.args in (simp (byte_past a.p.now a.at c.if-p-at.true), tt)

pub returns-then-count-lt1 : goal.returns-then-count-lt1
returns-then-count-lt1 c = let a = c.args in (sym (expr_refused a.p.now a.at _ c.if-p-at.false c.from-count.ensures c.then-count-lt1.either), tt)

pub returns-in_err-scan : goal.returns-in_err-scan
returns-in_err-scan c =
    let a = c.args in
    let e = expr-tokens a.p.now a.at _ c.if-p-at.false c.from-count.ensures c.if-count-lt1.false c.if-count-gt-MAX_TOKENS.false in
    let r = err_from_is_err_and c.from_residual.result c.from_residual.ensures.1 in
    rw (r.1, r.2) (scan_refused _ 0 _ (sym c.in_err-scan.was ∙ c.scan_tokens.ensures) ∙ sym e, tt)

pub returns : goal.returns
unfolding tokens_of sound
returns c =
    let a = c.args in
    let e = expr-tokens a.p.now a.at _ c.if-p-at.false c.from-count.ensures c.if-count-lt1.false c.if-count-gt-MAX_TOKENS.false in
    let k = sym c.in_ok-scan.was ∙ c.scan_tokens.ensures in
    (scan_got _ 0 _ k ∙ sym e, ap (λ (h : ℕ). eqb h 1) (scan_held (tokens _ a.p.now (a.at + 1)) 0 _ k))
