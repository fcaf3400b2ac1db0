-- `replace` meets its contract: with nothing open a store, else a change, of the operand of the entry's number. Assumes nothing.
use mathlib.Core.Path.{◌≡◌}
use native.Mathlib.Omega.{arith}
use lib.ListN.{length}
use Prim.Native.Nat.{◌+◌}
use Rattle.location.specs.Sets.{limit}
use Rattle.work.proofs.Moves.{fit-bound, moved_as, give_plain, give_open, entry-moved}
use borrow.Author.Rules.{rules}
use Rattle.work.proofs.machine.replace.Goals as goal

pub store-requires : goal.store-requires
store-requires c =
    let f = c.requires.0 in
    omega (arith, f.room, c.requires.2)

pub returns-then-c-eq0 : goal.returns-then-c-eq0
returns-then-c-eq0 c =
    let a = c.args in
    let p = c.requires in
    let i = p.2 in
    let of-set = c.well_formed.1.1.1.0.1.1.0 in
    let h : length a.v.deps.words ≡ 4 = search (rules, of-set) in
    entry-moved a.i a.v
    (moved_as c.store.ensures c.go.ensures
    (give_plain a.work.now a.c (limit + a.i) a.place a.remaining a.v p.0 p.1 (omega arith) h c.if-c-eq0.true))

pub change-requires : goal.change-requires
change-requires c =
    let f = c.requires.0 in
    omega (arith, fit-bound f, f.room, c.requires.2)

pub logged-requires : goal.logged-requires
logged-requires c =
    omega (arith, fit-bound c.requires.0)

pub returns : goal.returns
returns c =
    let a = c.args in
    let p = c.requires in
    let i = p.2 in
    let of-set = c.well_formed.1.1.1.0.1.1.0 in
    let h : length a.v.deps.words ≡ 4 = search (rules, of-set) in
    entry-moved a.i a.v
    (moved_as c.change.ensures c.logged.ensures
    (give_open a.work.now a.c (limit + a.i) a.place a.remaining a.v p.0 p.1 (omega arith) h c.if-c-eq0.false))
