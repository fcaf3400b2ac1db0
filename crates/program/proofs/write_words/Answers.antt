-- `program::write_words` meets its contract. The invariant: the instructions left can be read, and writing their words gives what writing all
-- of them gives.
-- Assumes nothing.
use mathlib.Core.Path.{◌≡◌}
use Prim.Native.Nat.{suc, ◌+◌, ◌-◌}
use native.Mathlib.Omega.{arith}
use lib.ListN.{length-set}
use Rattle.program.specs.Words.{words_from}
use Rattle.program.proofs.Laws.{program-read}
use Rattle.program.proofs.write_words.Goals as goal

pub word_at-requires : goal.word_at-requires
word_at-requires c =
    let a = c.args in
    let v = c.loop-label in
    let e : a.n - v.label ≡ suc (a.n - (v.label + 1)) = omega arith in
    ((program-read a.n (a.n - (v.label + 1)) v.label a.p.now v.at (rw e at v.invariant.2)).0, c.requires.1)

pub next_offset-at-requires : goal.next_offset-at-requires
next_offset-at-requires c =
    let a = c.args in
    let v = c.loop-label in
    let e : a.n - v.label ≡ suc (a.n - (v.label + 1)) = omega arith in
    (program-read a.n (a.n - (v.label + 1)) v.label a.p.now v.at (rw e at v.invariant.2)).0

pub loop-label-preserved : goal.loop-label-preserved
unfolding words_from
loop-label-preserved c =
    let a = c.args in
    let v = c.loop-label in
    let e : a.n - v.label ≡ suc (a.n - (v.label + 1)) = omega arith in
    let f : a.base + (v.label + 1) ≡ suc (a.base + v.label) = omega arith in
    let r = (program-read a.n (a.n - (v.label + 1)) v.label a.p.now v.at (rw e at v.invariant.2)).1 in (
      simp length-set v.invariant.0,
      rw (f, c.next_offset-at.ensures, c.word_at.ensures) (rw e at v.invariant.1),
      rw c.next_offset-at.ensures r,
    )

pub shape_of-table : goal.shape_of-table
shape_of-table c = c.loop-label.invariant.0

pub returns : goal.returns
unfolding words_from
returns c =
    let a = c.args in
    let v = c.loop-label in
    let e : a.n - v.label ≡ 0 = omega arith in
    rw e at v.invariant.1
