-- `run` meets its contract: what is left of the run is kept until a stop is found. Assumes nothing.
use mathlib.Core.Path.{◌≡◌, refl, ap, ◌∙◌}
use Prim.Native.Nat.{◌<◌}
use native.Mathlib.Omega.{arith}
use Rattle.stepping.specs.Progress.{standing}
use Rattle.std.specs.Prelude.{Some}
use Rattle.rules.specs.declared.Stop.{Stop}
use Rattle.execution.specs.Running.{report_of}
use Rattle.execution.proofs.Running.{found, halts_plainly, not_over, ready-start, settled_start, run_ends}
use Rattle.execution.proofs.Foreseen.{few-observed, same-steps, foreseen_unhindered, foreseen_ahead, foreseen_ends}
use Rattle.execution.proofs.run.Goals as goal

pub loop-trace-init : goal.loop-trace-init
loop-trace-init c =
    let a = c.args in (
      refl,
      refl,
      rw c.beginning-c.ensures
          (ready-start a.p.now a.t a.mode a.work.now a.trace.now c.requires.0 c.requires.1),
      rw c.beginning-c.ensures (settled_start a.p.now a.t a.mode a.work.now a.trace.now),
    )

pub halt_of-requires : goal.halt_of-requires
halt_of-requires c =
    c.loop-trace.invariant.2

pub free_until-until-requires : goal.free_until-until-requires
free_until-until-requires c =
    let o = found _ _ _ _ c.in-None.is c.halt_of.ensures in
    (c.loop-trace.invariant.2.counted.room, o.fitting.left)

pub record_next-next-requires : goal.record_next-next-requires
record_next-next-requires c =
    let v = c.loop-trace in
    let a = c.args in
    let x = standing v.work v.trace v.c in
    let r = v.invariant.2 in
    let o = found _ _ _ _ c.in-None.is c.halt_of.ensures in
    (r.steady.loaded, r.steady.fits, not_over _ _ a.mode x o.fitting.on, few-observed r)

pub make_steps-c-requires : goal.make_steps-c-requires
make_steps-c-requires c =
    let r = c.loop-trace.invariant.2 in
    let o = found _ _ _ _ c.in-None.is c.halt_of.ensures in
    let f = c.record_next-next.ensures _ _ r.steady in
    foreseen_unhindered _ _ _ r f o (c.free_until-until.ensures _)

pub loop-trace-smaller : goal.loop-trace-smaller
loop-trace-smaller c =
    let next = c.record_next-next.result in
    let made = c.make_steps-c.result in
    let further : next.steps < made.steps = c.make_steps-c.ensures.further in
    let most = c.make_steps-c.ensures.ready.budget in
    let f = c.record_next-next.ensures _ c.loop-trace.trace c.loop-trace.invariant.2.steady in
    let e : next.steps ≡ c.loop-trace.c.steps = same-steps c.loop-trace.c _ f.progress in
    omega arith

pub loop-trace-preserved : goal.loop-trace-preserved
loop-trace-preserved c =
    let r = c.loop-trace.invariant.2 in
    let o = found _ _ _ _ c.in-None.is c.halt_of.ensures in
    let f = c.record_next-next.ensures _ _ r.steady in (
      c.make_steps-c.auto.work ∙ c.record_next-next.auto.work ∙ c.loop-trace.invariant.0,
      c.make_steps-c.auto.trace ∙ c.loop-trace.invariant.1,
      c.make_steps-c.ensures.ready,
      c.make_steps-c.ensures.kept _ _ _ (foreseen_ahead _ _ _ r f o c.loop-trace.invariant.3),
    )

pub record_next-requires : goal.record_next-requires
record_next-requires c =
    let v = c.loop-trace in
    let a = c.args in
    let x = standing v.work v.trace v.c in
    let r = v.invariant.2 in
    let o = found _ _ _ _ (c.in-Some.is ∙ ap Some c.in-OutsideFull.is) c.halt_of.ensures in
    (r.steady.loaded, r.steady.fits, not_over _ _ a.mode x o.fitting.on, few-observed r)

pub report-requires : goal.report-requires
report-requires c =
    let r = c.loop-trace.invariant.2 in
    let f = c.record_next.ensures _ c.loop-trace.trace r.steady in
    rw f.progress r.steady.fits.opened

pub returns-in-OutsideFull : goal.returns-in-OutsideFull
returns-in-OutsideFull c =
    let r = c.loop-trace.invariant.2 in
    let o = found _ _ _ _ (c.in-Some.is ∙ ap Some c.in-OutsideFull.is) c.halt_of.ensures in
    let f = c.record_next.ensures _ c.loop-trace.trace r.steady in
    let e = c.report.ensures ∙ ap (λ (s : Stop). report_of s c.record_next.result) c.in-OutsideFull.is in
    foreseen_ends _ _ _ r f o c.loop-trace.invariant.3 e

pub returns-in_default : goal.returns-in_default
returns-in_default c =
    let o = found _ _ _ _ c.in-Some.is c.halt_of.ensures in
    run_ends _ _ _ c.report-in_default.ensures c.loop-trace.invariant.2 c.loop-trace.invariant.3
    (halts_plainly _ _ _ _ c.in-Some.stop c.in_default.not-OutsideFull o)
