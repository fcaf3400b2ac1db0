-- `index_tokens` meets its contract. The invariant: the tokens left, over the texts of those indexed so far, leave the texts of all.
-- Assumes nothing.
use mathlib.Core.Path.{◌≡◌}
use Prim.Native.Nat.{suc, ◌+◌, ◌-◌}
use native.Mathlib.Nat.{sub-zero}
use native.Mathlib.Omega.{arith}
use lib.ListN.{length-set}
use Rattle.token.specs.Meaning.{token_meaning}
use Rattle.text_printer.proofs.Operands.{left-start, left-readable, left-next, left_done}
use Rattle.text_printer.proofs.index_tokens.Goals as goal

pub loop-i-init : goal.loop-i-init
loop-i-init c =
    let a = c.args in
    rw sub-zero (left-start a.p.now a.e a.offsets.now a.below.now (omega arith) c.requires.0)

pub token_at-read-requires : goal.token_at-read-requires
token_at-read-requires c =
    let a = c.args in
    let v = c.loop-i in
    let e : a.e.count - v.i ≡ suc (a.e.count - (v.i + 1)) = omega arith in
    left-readable (rw e at v.invariant)

pub below_after-first-requires : goal.below_after-first-requires
below_after-first-requires c =
    let a = c.args in
    let v = c.loop-i in
    (omega (arith, length-set a.below.now 0 0), v.invariant.indexed.first v.i (omega arith))

pub bounds-below-i : goal.bounds-below-i
bounds-below-i c =
    let a = c.args in
    omega (arith, length-set a.below.now 0 0)

pub loop-i-preserved : goal.loop-i-preserved
loop-i-preserved c =
    let a = c.args in
    let v = c.loop-i in
    let r = c.token_at-read.result in
    let e : a.e.count - v.i ≡ suc (a.e.count - (v.i + 1)) = omega arith in
    let f : v.i + 1 ≡ suc v.i = omega arith in
    left-next (rw e at v.invariant) (v.i + 1) f (token_meaning r.token) r.next c.below_after-first.result c.token_at-read.ensures
    c.below_after-first.ensures (omega arith) (omega (arith, length-set a.below.now 0 0))

pub returns : goal.returns
returns c =
    let a = c.args in
    let v = c.loop-i in
    let none : a.e.count - v.i ≡ 0 = omega arith in
    let all : v.i ≡ a.e.count = omega arith in
    left_done a.p.now a.e v.offset v.offsets v.below (rw (none, all) at v.invariant)
