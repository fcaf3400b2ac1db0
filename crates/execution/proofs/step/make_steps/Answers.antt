-- `make_steps` meets its contract: each step is the rules', and may be made; a store that cannot be made ends them. Assumes nothing.
use mathlib.Core.Path.{refl, ◌∙◌}
use native.Mathlib.Omega.{arith}
use Rattle.execution.proofs.Machine.{closed-window, open_back, place_inside, window-left}
use Rattle.execution.proofs.Running.{rolled, rolls_two, rolls_quiet, rolls_fitting, known-empty}
use Rattle.execution.proofs.Running.{stepping_starts, stepping_on, stepping_made, stepping_over, stepping_stuck}
use Rattle.execution.proofs.Running.{moved_made, back-next, advance_next}
use borrow.Author.Rules.{rules}
use Rattle.execution.proofs.step.make_steps.Goals as goal

pub loop-c-init : goal.loop-c-init
loop-c-init c =
    let q = c.requires in
    (refl, refl, stepping_starts c.args.p.now c.args.t c.args.mode q)

pub rule_of-requires : goal.rule_of-requires
rule_of-requires c =
    closed-window _ c.loop-c.invariant.2.ready.steady.fits

pub returns-in-Over : goal.returns-in-Over
returns-in-Over c =
    stepping_over _ _ _ c.loop-c.invariant.2 c.rule_of.ensures c.in-Over.is

pub roll_back-c-requires : goal.roll_back-c-requires
roll_back-c-requires c =
    let s = c.loop-c.invariant.2 in
    let g = back-next _ _ _ c.loop-c.invariant.2 c.rule_of.ensures c.in-RollBack.is in
    let two = rolls_two _ _ _ _ _ s.ready.steady g in
    let room = s.room c.loop-c-test.true in
    let steps = s.ready.counted.steps in
    (s.ready.steady.fits, open_back _ _ _ _ g, omega arith, omega arith)

pub loop-c-smaller-in-RollBack : goal.loop-c-smaller-in-RollBack
loop-c-smaller-in-RollBack c =
    let g = back-next _ _ _ c.loop-c.invariant.2 c.rule_of.ensures c.in-RollBack.is in
    let m = rolled _ _ _ _ _ c.loop-c.invariant.2.ready g c.roll_back-c.ensures in
    let more = m.steps in
    let h = c.loop-c-test.true in
    omega arith

pub loop-c-preserved-in-RollBack : goal.loop-c-preserved-in-RollBack
loop-c-preserved-in-RollBack c =
    let s = c.loop-c.invariant.2 in
    let g = back-next _ _ _ c.loop-c.invariant.2 c.rule_of.ensures c.in-RollBack.is in
    let f = rolls_fitting _ _ _ _ _ s.ready.steady g in
    let q = known-empty _ (rolls_quiet _ _ _ _ _ s.ready.steady g) in
    (search rules, search rules, stepping_on _ _ _ s c.loop-c-test.true g.on f q (rolled _ _ _ _ _ s.ready g c.roll_back-c.ensures))

pub advance-next-requires : goal.advance-next-requires
advance-next-requires c =
    let s = c.loop-c.invariant.2 in
    let g = advance_next _ _ _ c.loop-c.invariant.2 c.rule_of.ensures c.in-Advance.is in
    let room = s.room c.loop-c-test.true in
    record { ready = s.ready; inside = place_inside g; window = window-left s.ready.steady.fits g; room = omega arith }

pub shape_of-work-then-next-c : goal.shape_of-work-then-next-c
shape_of-work-then-next-c c =
    c.advance-next.auto.work ∙ c.loop-c.invariant.0

pub shape_of-trace-then-next-c : goal.shape_of-trace-then-next-c
shape_of-trace-then-next-c c =
    c.advance-next.auto.trace ∙ c.loop-c.invariant.1

pub returns-then-next-c : goal.returns-then-next-c
returns-then-next-c c =
    stepping_stuck _ _ _ c.loop-c.invariant.2 c.advance-next.ensures c.if-next-c.true

pub loop-c-smaller : goal.loop-c-smaller
loop-c-smaller c =
    let m = moved_made _ _ _ c.loop-c.invariant.2 c.advance-next.ensures c.if-next-c.false in
    let more = m.2.steps in
    let h = c.loop-c-test.true in
    omega arith

pub loop-c-preserved : goal.loop-c-preserved
loop-c-preserved c =
    let s = c.loop-c.invariant.2 in
    let g = advance_next _ _ _ c.loop-c.invariant.2 c.rule_of.ensures c.in-Advance.is in
    let m = moved_made _ _ _ s c.advance-next.ensures c.if-next-c.false in (
      c.advance-next.auto.work ∙ c.loop-c.invariant.0,
      c.advance-next.auto.trace ∙ c.loop-c.invariant.1,
      stepping_on _ _ _ s c.loop-c-test.true g.on m.0 m.1 m.2,
    )

pub returns : goal.returns
returns c =
    stepping_made _ _ _ c.loop-c.invariant.2 c.loop-c-test.false
