-- `next_observations` meets its contract: rule 1 makes two, and the instruction at the place what its kind makes. Assumes nothing.
use mathlib.Core.Path.{sym, ap, ◌∙◌}
use mathlib.Core.Bool.{true≢false}
use native.Mathlib.Omega.{arith}
use lib.ListN.{length, drop}
use Rattle.rules.specs.Rules.Instructions.{Instr}
use Rattle.rules.specs.Rules.JobFile.{locations}
use Rattle.work.specs.Layout.{labels}
use Rattle.work.specs.Machines.{machine_of}
use Rattle.execution.specs.Next.{forward_by}
use Rattle.execution.specs.Running.{code_in}
use Rattle.execution.proofs.Machine.{closed-window, over-named, back-named, advance_named, place_inside}
use Rattle.execution.proofs.Running.{rolls_two, fetched_valid, fetched_same, observed-forward}
use Rattle.execution.proofs.halt.next_observations.Goals as goal

pub rule_of-requires : goal.rule_of-requires
rule_of-requires c =
    closed-window c.args.c c.requires.0.fits

pub fetch-d-requires : goal.fetch-d-requires
fetch-d-requires c =
    let a = c.args in
    let g = advance_named a.c a.t.count a.work.now (locations a.t)
    (sym c.in-Advance.is ∙ c.rule_of.ensures a.work.now (locations a.t)) in
    let i = place_inside g in
    let m = c.requires.0.loaded.limits.count_most in
    let r = c.requires.0.fits.room in
    rw c.new-label.ensures (omega arith)

pub instruction_of-i-requires : goal.instruction_of-i-requires
instruction_of-i-requires c =
    let a = c.args in
    let g = advance_named a.c a.t.count a.work.now (locations a.t)
    (sym c.in-Advance.is ∙ c.rule_of.ensures a.work.now (locations a.t)) in
    fetched_valid a.p.now a.t a.mode a.work.now a.c c.requires.0 (place_inside g) c.new-label.ensures
    c.fetch-d.ensures

pub returns-in-Over : goal.returns-in-Over
returns-in-Over c =
    let a = c.args in
    let o = over-named a.c a.t.count a.work.now (locations a.t)
    (sym c.in-Over.is ∙ c.rule_of.ensures a.work.now (locations a.t)) in
    absurd (true≢false (sym o ∙ c.requires.1))

pub returns-in-RollBack : goal.returns-in-RollBack
returns-in-RollBack c =
    let a = c.args in
    let g = back-named a.c a.t.count a.work.now (locations a.t)
    (sym c.in-RollBack.is ∙ c.rule_of.ensures a.work.now (locations a.t)) in
    rolls_two a.p.now a.t a.mode a.work.now a.c c.requires.0 g

pub returns-in-Advance : goal.returns-in-Advance
returns-in-Advance c =
    let a = c.args in
    let w = a.work.now in
    let k = a.c in
    let code = code_in a.p.now a.t (drop labels w) in
    let M = machine_of w k (locations a.t) in
    let g = advance_named k a.t.count w (locations a.t)
    (sym c.in-Advance.is ∙ c.rule_of.ensures w (locations a.t)) in
    let same = fetched_same a.p.now a.t a.mode w k c.requires.0 (place_inside g) c.new-label.ensures c.fetch-d.ensures in
    c.observations_of.ensures a.p.now code M
    ∙ ap (λ (i : Instr). length (forward_by a.mode code M i).obs) c.instruction_of-i.ensures
    ∙ observed-forward a.p.now a.t a.mode w k g same
