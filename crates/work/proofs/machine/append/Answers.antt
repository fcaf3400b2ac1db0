-- `append` meets its contract: with nothing open the entry alone, else it is logged too. Assumes nothing.
use mathlib.Core.Path.{◌≡◌, ap, ◌∙◌}
use Prim.Native.Nat.{ℕ}
use native.Mathlib.Omega.{arith}
use lib.ListN.{length}
use Rattle.work.specs.Words.{appended, extended}
use Rattle.work.proofs.Moves.{fit-bound, moved_as, append-plain, append_open}
use borrow.Author.Rules.{rules}
use Rattle.work.proofs.machine.append.Goals as goal

pub returns-then-c-eq0 : goal.returns-then-c-eq0
returns-then-c-eq0 c =
    let a = c.args in
    let p = c.requires in
    let of-set = c.well_formed.1.1.1.1.0.1.1.0 in
    let h : length a.v.deps.words ≡ 4 = search (rules, of-set) in
    moved_as (c.append.ensures ∙ ap (λ (x : ℕ). appended a.work.now a.i x a.v) c.value-address.ensures) c.go.ensures
    (append-plain a.work.now a.c a.i a.a.0 a.place a.remaining a.v p.0 p.1 p.2 p.3 h c.if-c-eq0.true)

pub extend-requires : goal.extend-requires
extend-requires c =
    let f = c.requires.0 in
    (c.requires.3, omega (arith, fit-bound f, f.room))

pub logged-requires : goal.logged-requires
logged-requires c =
    omega (arith, fit-bound c.requires.0)

pub returns : goal.returns
returns c =
    let a = c.args in
    let p = c.requires in
    let of-set = c.well_formed.1.1.1.1.0.1.1.0 in
    let h : length a.v.deps.words ≡ 4 = search (rules, of-set) in
    moved_as (c.extend.ensures ∙ ap (λ (x : ℕ). extended a.work.now a.c.log a.i x a.v) c.value-address.ensures)
    c.logged.ensures
    (append_open a.work.now a.c a.i a.a.0 a.place a.remaining a.v p.0 p.1 p.2 p.3 h c.if-c-eq0.false)
