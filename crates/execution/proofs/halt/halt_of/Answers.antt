-- `halt_of` meets its contract: each test in its order. Assumes nothing.
use mathlib.Core.Path.{sym, ◌∙◌}
use native.Mathlib.Omega.{arith}
use lib.ListN.{drop}
use Rattle.rules.specs.Rules.JobFile.{locations}
use Rattle.work.specs.Layout.{labels}
use Rattle.work.specs.Machines.{machine_of}
use Rattle.stepping.specs.Progress.{standing}
use Rattle.execution.specs.Running.{code_in}
use Rattle.execution.proofs.Machine.{step-most}
use Rattle.execution.proofs.Running.{halts-finished, halts_spent, halts-full, fitting}
use Rattle.execution.proofs.halt.halt_of.Goals as goal

pub returns-then-is_over : goal.returns-then-is_over
returns-then-is_over c =
    let a = c.args in
    halts-finished a.p.now a.t a.mode (standing a.work.now a.trace.now a.c)
    (sym c.is_over.ensures ∙ c.if-is_over.true)

pub returns-then-t-c : goal.returns-then-t-c
returns-then-t-c c =
    let a = c.args in
    halts_spent a.p.now a.t a.mode (standing a.work.now a.trace.now a.c)
    (sym c.is_over.ensures ∙ c.if-is_over.false) c.if-t-c.true

pub next_observations-requires : goal.next_observations-requires
next_observations-requires c =
    (c.requires.steady, sym c.is_over.ensures ∙ c.if-is_over.false)

pub overflow_add-c : goal.overflow_add-c
overflow_add-c c =
    let a = c.args in
    let e = c.next_observations.ensures in
    let two = step-most a.mode (code_in a.p.now a.t (drop labels a.work.now))
    (machine_of a.work.now a.c.control (locations a.t)) in
    let r = c.requires.counted.room in
    omega (arith, c.well_formed)

pub returns-then-trace-c : goal.returns-then-trace-c
returns-then-trace-c c =
    let a = c.args in
    let e = c.next_observations.ensures in
    let h = c.if-trace-c.true in
    halts-full a.p.now a.t a.mode (standing a.work.now a.trace.now a.c) (sym c.is_over.ensures ∙ c.if-is_over.false)
    c.if-t-c.false (omega arith)

pub next_needs-requires : goal.next_needs-requires
next_needs-requires c =
    (c.requires.steady.loaded, c.requires.steady.fits, sym c.is_over.ensures ∙ c.if-is_over.false)

pub returns-then-next_needs : goal.returns-then-next_needs
returns-then-next_needs c =
    let a = c.args in
    let e = c.next_observations.ensures in
    let h = c.if-trace-c.false in
    let f = fitting a.p.now a.t a.mode (standing a.work.now a.trace.now a.c)
    (sym c.is_over.ensures ∙ c.if-is_over.false) c.if-t-c.false (omega arith) in
    record { fitting = f; full = sym (c.next_needs.ensures a.mode c.requires.steady) ∙ c.if-next_needs.true }

pub returns : goal.returns
returns c =
    let a = c.args in
    let e = c.next_observations.ensures in
    let h = c.if-trace-c.false in
    let f = fitting a.p.now a.t a.mode (standing a.work.now a.trace.now a.c)
    (sym c.is_over.ensures ∙ c.if-is_over.false) c.if-t-c.false (omega arith) in
    record { fitting = f; storable = sym (c.next_needs.ensures a.mode c.requires.steady) ∙ c.if-next_needs.false }
