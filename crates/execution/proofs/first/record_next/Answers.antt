-- `record_next` meets its contract: rule 1 observes no set, and else the instruction at the place is the next step's. Assumes nothing.
use mathlib.Core.Path.{sym, ◌∙◌}
use mathlib.Core.Bool.{true≢false}
use native.Mathlib.Omega.{arith}
use Rattle.std.proofs.Common.{inl, inr}
use Rattle.rules.specs.Rules.JobFile.{locations}
use Rattle.execution.specs.declared.Mode.TheVariants as modes
use Rattle.execution.proofs.Machine.{closed-window, over-named, back-named, advance_named, place_inside}
use Rattle.execution.proofs.Running.{steady_any, rolls_quiet, fetched_valid, fetched_same, step-seen, step-cause}
use Rattle.execution.proofs.Sights.{found, found_none}
use Rattle.execution.proofs.Foreseen.{foresees_nothing, foresees}
use borrow.Author.Rules.{rules}
use Rattle.execution.proofs.first.record_next.Goals as goal

pub rule_of-requires : goal.rule_of-requires
rule_of-requires c =
    closed-window c.args.c.control c.requires.1

pub fetch-d-requires : goal.fetch-d-requires
fetch-d-requires c =
    let a = c.args in
    let k = a.c.control in
    let w = a.work.now in
    let g = advance_named k a.t.count w (locations a.t)
    (sym c.in-Advance.is ∙ c.rule_of.ensures w (locations a.t)) in
    let i = place_inside g in
    let m = c.requires.0.limits.count_most in
    let r = c.requires.1.room in
    rw c.new-place.ensures (omega arith)

pub instruction_of-i-requires : goal.instruction_of-i-requires
instruction_of-i-requires c =
    let a = c.args in
    let k = a.c.control in
    let w = a.work.now in
    let g = advance_named k a.t.count w (locations a.t)
    (sym c.in-Advance.is ∙ c.rule_of.ensures w (locations a.t)) in
    let s = steady_any a.p.now a.t c.requires.0 c.requires.1 in
    fetched_valid a.p.now a.t modes.Mispredicting w k s (place_inside g) c.new-place.ensures c.fetch-d.ensures

pub sight_of-requires : goal.sight_of-requires
sight_of-requires c =
    let a = c.args in
    let k = a.c.control in
    let w = a.work.now in
    let g = advance_named k a.t.count w (locations a.t)
    (sym c.in-Advance.is ∙ c.rule_of.ensures w (locations a.t)) in
    let s = steady_any a.p.now a.t c.requires.0 c.requires.1 in
    let v = fetched_valid a.p.now a.t modes.Mispredicting w k s (place_inside g) c.new-place.ensures c.fetch-d.ensures in
    let e = c.instruction_of-i.ensures in
    let r = c.requires.1.room in
    (rw e v.sound, rw e v.below, omega arith)

pub record-requires : goal.record-requires
record-requires c =
    let a = c.args in
    let k = a.c.control in
    let w = a.work.now in
    let g = advance_named k a.t.count w (locations a.t)
    (sym c.in-Advance.is ∙ c.rule_of.ensures w (locations a.t)) in
    let i = place_inside g in
    let m = c.requires.0.limits.count_most in
    (c.requires.1.room, c.requires.3, omega arith)

-- the run is not over; and rule 1 observes no set
pub returns-in-Over : goal.returns-in-Over
returns-in-Over c mode trace s =
    let a = c.args in
    let k = a.c.control in
    let r = c.rule_of.ensures a.work.now (locations a.t) in
    let sets = c.well_formed.1.1.1.0.1.1.1.1.1 in
    elim c.in-Over.is [
      | inl h ↦ absurd (true≢false (sym (over-named k a.t.count a.work.now (locations a.t) (sym h ∙ r)) ∙ c.requires.2))
      | inr h ↦ foresees_nothing a.p.now a.t mode a.work.now trace a.c (search (rules, sets.0)) (search (rules, sets.1.0))
          (rolls_quiet a.p.now a.t mode a.work.now k s (back-named k a.t.count a.work.now (locations a.t) (sym h ∙ r)))
    ]

pub returns-in_default : goal.returns-in_default
returns-in_default c mode trace s =
    let a = c.args in
    let k = a.c.control in
    let w = a.work.now in
    let g = advance_named k a.t.count w (locations a.t)
    (sym c.in-Advance.is ∙ c.rule_of.ensures w (locations a.t)) in
    let p = a.p.now in
    let e = c.instruction_of-i.ensures
    ∙ fetched_same p a.t mode w k s (place_inside g) c.new-place.ensures c.fetch-d.ensures in
    let o = found_none _ c.in_default.not-Some c.sight_of.ensures in
    let sets = c.well_formed.1.1.1.0.1.1.1.1.1 in
    foresees_nothing p a.t mode w trace a.c (search (rules, sets.0)) (search (rules, sets.1.0))
    (sym (o.set _ k a.t.cells ∙ step-seen p a.t mode w k g e))

pub returns-in-Some : goal.returns-in-Some
returns-in-Some c mode trace s =
    let a = c.args in
    let k = a.c.control in
    let w = a.work.now in
    let g = advance_named k a.t.count w (locations a.t)
    (sym c.in-Advance.is ∙ c.rule_of.ensures w (locations a.t)) in
    let p = a.p.now in
    let m = c.requires.0.limits.count_most in
    let i = place_inside g in
    let e = c.instruction_of-i.ensures
    ∙ fetched_same p a.t mode w k s (place_inside g) c.new-place.ensures c.fetch-d.ensures in
    let o = found c.in-Some.is c.sight_of.ensures in
    foresees p a.t mode w trace a.c c.in-Some.next.seen (o.rule ∙ step-cause p a.t mode w k g e)
    (o.set _ k a.t.cells ∙ step-seen p a.t mode w k g e) o.size (omega arith) c.«record».ensures c.gather_unmade.ensures
