-- `token::tokens_end` meets its contract. The invariant: the tokens left can be read, and end where all of them do.
-- Assumes nothing.
use mathlib.Core.Path.{◌≡◌, sym, ◌∙◌}
use Prim.Native.Nat.{suc, ◌+◌, ◌-◌}
use native.Mathlib.Omega.{arith}
use Rattle.rules.specs.Rules.JobFile.{tokens}
use Rattle.rules.specs.Theorems.Readers.{next_offset}
use Rattle.token.specs.Readable.{tokens-read, tokens-next}
use Rattle.token.proofs.tokens_end.Goals as goal

pub token_end-offset-requires : goal.token_end-offset-requires
token_end-offset-requires c =
    let a = c.args in
    let v = c.loop in
    let e : a.e.count - v.counter ≡ suc (a.e.count - (v.counter + 1)) = omega arith in
    (tokens-read _ _ _ (rw e at v.invariant.0)).0

pub loop-preserved : goal.loop-preserved
loop-preserved c =
    let a = c.args in
    let v = c.loop in
    let e : a.e.count - v.counter ≡ suc (a.e.count - (v.counter + 1)) = omega arith in
    let n = tokens-next _ _ _ (rw e at v.invariant.0) in
    (rw c.token_end-offset.ensures n.0, rw c.token_end-offset.ensures (sym n.1 ∙ (rw e at v.invariant.1)))

pub returns : goal.returns
unfolding tokens next_offset
returns c =
    let a = c.args in
    let v = c.loop in
    let e : a.e.count - v.counter ≡ 0 = omega arith in
    rw e at v.invariant.1
