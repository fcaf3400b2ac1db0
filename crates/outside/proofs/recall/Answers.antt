-- `recall` meets its contract: the word of the entry that was found, if one was. Assumes nothing.
use mathlib.Core.Path.{◌≡◌, sym, ap, ◌∙◌}
use Prim.Native.Nat.{ℕ, ◌<◌}
use native.Mathlib.Nat.{zero-add}
use native.Mathlib.Omega.{arith}
use lib.ListN.{length}
use Rattle.location.specs.declared.LocationSet.{LocationSet}
use Rattle.rules.specs.Rules.Expressions.{tagged}
use Rattle.rules.specs.Rules.Changes.{position}
use Rattle.work.specs.Words.{count_in, entry_at}
use Rattle.work.specs.Machines.{table_in}
use Rattle.work.proofs.States.{entries_length}
use Rattle.outside.specs.Positions.{recall-there, recall-nowhere}
use Rattle.outside.proofs.recall.Goals as goal

pub returns-in-Some : goal.returns-in-Some
returns-in-Some c =
    let a = c.args in
    let w = a.work.now in
    let e = c.in-Some.ensures in
    let k = c.entry_count.ensures in
    let l : position (table_in w) a.a.0 < count_in w = omega arith in
    c.load_entry.ensures ∙ ap (λ (i : ℕ). (entry_at w i).word) (e.0 ∙ sym (zero-add (position (table_in w) a.a.0)))
    ∙ sym (recall-there w 0 (count_in w) a.a.0 l)

pub returns-in-None : goal.returns-in-None
returns-in-None c =
    let a = c.args in
    let w = a.work.now in
    let e = c.in-None.ensures in
    let k = c.entry_count.ensures in
    let s = entries_length w 0 (count_in w) in
    let l : position (table_in w) a.a.0 ≡ length (table_in w) = omega arith in
    ap (λ (d : LocationSet). tagged 0 d) c.empty.ensures ∙ sym (recall-nowhere (table_in w) a.a.0 l)
