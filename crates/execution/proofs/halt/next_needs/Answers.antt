-- `next_needs` meets its contract: with room in the table nothing, nor for rule 1; else by the instruction at the place. Assumes nothing.
use mathlib.Core.Path.{sym, ◌∙◌}
use mathlib.Core.Bool.{true≢false}
use native.Mathlib.Omega.{arith}
use lib.ListN.{drop}
use Rattle.std.proofs.Common.{inl, inr}
use Rattle.rules.specs.Rules.JobFile.{locations}
use Rattle.work.specs.Layout.{labels}
use Rattle.work.specs.Words.{count_in}
use Rattle.work.specs.Machines.{machine_of}
use Rattle.work.proofs.States.{entries_length}
use Rattle.execution.specs.declared.Mode.TheVariants as modes
use Rattle.execution.specs.Running.{code_in}
use Rattle.execution.proofs.Machine.{closed-window, over-named, back-named, advance_named, place_inside}
use Rattle.execution.proofs.Overfull.{step_fits}
use Rattle.execution.proofs.Running.{code_of, steady_any, rolls_fitting, fetched_valid, fetched_same, step-overfull}
use Rattle.execution.proofs.halt.next_needs.Goals as goal

pub returns-then-entry_count-lt-MAX_ENTRIES : goal.returns-then-entry_count-lt-MAX_ENTRIES
returns-then-entry_count-lt-MAX_ENTRIES c mode s =
    let a = c.args in
    let w = a.work.now in
    let n = entries_length w 0 (count_in w) in
    let k = c.entry_count.ensures in
    let h = c.if-entry_count-lt-MAX_ENTRIES.true in
    sym (step_fits mode (code_in a.p.now a.t (drop labels w)) (machine_of w a.c (locations a.t)) (omega arith))

pub rule_of-requires : goal.rule_of-requires
rule_of-requires c =
    closed-window c.args.c c.requires.1

pub fetch-d-requires : goal.fetch-d-requires
fetch-d-requires c =
    let a = c.args in
    let g = advance_named a.c a.t.count a.work.now (locations a.t)
    (sym c.in-Advance.is ∙ c.rule_of.ensures a.work.now (locations a.t)) in
    let i = place_inside g in
    let m = c.requires.0.limits.count_most in
    let r = c.requires.1.room in
    rw c.new-place.ensures (omega arith)

pub instruction_of-i-requires : goal.instruction_of-i-requires
instruction_of-i-requires c =
    let a = c.args in
    let g = advance_named a.c a.t.count a.work.now (locations a.t)
    (sym c.in-Advance.is ∙ c.rule_of.ensures a.work.now (locations a.t)) in
    let s = steady_any a.p.now a.t c.requires.0 c.requires.1 in
    fetched_valid a.p.now a.t modes.Mispredicting a.work.now a.c s (place_inside g) c.new-place.ensures c.fetch-d.ensures

pub store_needs-requires : goal.store_needs-requires
store_needs-requires c =
    let a = c.args in
    let g = advance_named a.c a.t.count a.work.now (locations a.t)
    (sym c.in-Advance.is ∙ c.rule_of.ensures a.work.now (locations a.t)) in
    let s = steady_any a.p.now a.t c.requires.0 c.requires.1 in
    let v = fetched_valid a.p.now a.t modes.Mispredicting a.work.now a.c s (place_inside g) c.new-place.ensures
    c.fetch-d.ensures in
    let r = c.requires.1.room in
    (rw c.instruction_of-i.ensures v.sound, omega arith)

pub returns-in-Advance : goal.returns-in-Advance
returns-in-Advance c mode s =
    let a = c.args in
    let p = a.p.now in
    let w = a.work.now in
    let k = a.c in
    let code = code_in p a.t (drop labels w) in
    let ec = (code_of p a.t w).cells in
    let g = advance_named k a.t.count w (locations a.t)
    (sym c.in-Advance.is ∙ c.rule_of.ensures w (locations a.t)) in
    let same = c.instruction_of-i.ensures
    ∙ fetched_same p a.t mode w k s (place_inside g) c.new-place.ensures c.fetch-d.ensures in
    c.store_needs.ensures code k ec ∙ step-overfull p a.t mode w k g same

-- the run is not over; and rule 1 needs none
pub returns-in-Over : goal.returns-in-Over
returns-in-Over c mode s =
    let a = c.args in
    let r = c.rule_of.ensures a.work.now (locations a.t) in
    elim c.in-Over.is [
      | inl h ↦ absurd (true≢false (sym (over-named a.c a.t.count a.work.now (locations a.t) (sym h ∙ r)) ∙ c.requires.2))
      | inr h ↦ sym (rolls_fitting a.p.now a.t mode a.work.now a.c s (back-named a.c a.t.count a.work.now (locations a.t) (sym h ∙ r)))
    ]
