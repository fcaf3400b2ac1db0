-- `advance_by` meets its contract: rule 2 for a branch that the instruction opens, else rule 3. Assumes nothing.
use mathlib.Core.Path.{refl, sym, ap, ◌∙◌}
use native.Mathlib.Omega.{arith}
use lib.ListN.{length, drop}
use Rattle.rules.specs.Rules.Expressions.{eval}
use Rattle.rules.specs.Rules.Instructions.{Instr}
use Rattle.rules.specs.Rules.JobFile.{locations}
use Rattle.rules.specs.Rules.Mispredicting.{ordinary}
use Rattle.descriptor.specs.Descriptors.{first_tokens}
use Rattle.work.specs.Layout.{labels}
use Rattle.work.specs.Words.{tagged_at}
use Rattle.work.specs.Machines.{machine_of}
use Rattle.evaluation.proofs.Laws.{register-value}
use Rattle.execution.specs.Running.{code_in}
use Rattle.execution.proofs.Machine.{still_going}
use Rattle.execution.proofs.Running.{in_state, locations-most, tried_as, opened-tried, not_opened, code_of, fetched_valid, fetched_same}
use Rattle.execution.proofs.Running.{branch-step, other_step, branch-room, other-room}
use Rattle.execution.proofs.step.advance_by.Goals as goal

pub source_value-a-requires : goal.source_value-a-requires
source_value-a-requires c =
    let a = c.args in
    let v = fetched_valid a.p.now a.t a.mode a.work.now a.c.control c.requires.0.ready.steady c.requires.0.inside
    refl c.requires.1 in
    let r = c.requires.0.ready.steady.fits.room in
    (v, omega arith)

pub open_branch-requires : goal.open_branch-requires
open_branch-requires c =
    let a = c.args in
    let k = a.c.control in
    let v = fetched_valid a.p.now a.t a.mode a.work.now a.c.control c.requires.0.ready.steady c.requires.0.inside
    refl c.requires.1 in
    let o = rw c.in-Some.is at (c.opening_of.ensures a.p.now v) in
    let same = fetched_same a.p.now a.t a.mode a.work.now a.c.control c.requires.0.ready.steady c.requires.0.inside
    refl c.requires.1 in
    let g = still_going c.requires.0.inside c.requires.0.window in
    let l = c.requires.0.ready.steady.loaded.limits.count_most in
    let i = c.requires.0.inside in
    let steps = c.requires.0.ready.counted.steps in
    let opened = c.requires.0.ready.counted.opened in
    let room = branch-room a.p.now a.t a.mode a.work.now k g same a.c.observations (length a.trace.now) c.requires.0.room o in (
      record {
        unexpired = record {
          fits = c.requires.0.ready.steady.fits;
          costs = c.requires.0.ready.steady.loaded.costs;
          window = c.requires.0.window;
        };
        room = room;
        place = omega arith;
        steps = omega arith;
      },
      omega arith,
      rw o.1 at v.below,
      rw o.1 at c.source_value-a.ensures ∙ register-value _ _,
      c.requires.0.ready.steady.loaded.limits.window,
    )

pub instruction_of-i-requires : goal.instruction_of-i-requires
instruction_of-i-requires c =
    let a = c.args in
    fetched_valid a.p.now a.t a.mode a.work.now a.c.control c.requires.0.ready.steady c.requires.0.inside
    refl c.requires.1

pub carry_out-requires : goal.carry_out-requires
carry_out-requires c =
    let a = c.args in
    let k = a.c.control in
    let w = a.work.now in
    let code = code_in a.p.now a.t (drop labels w) in
    let M = machine_of w k (locations a.t) in
    let v = fetched_valid a.p.now a.t a.mode a.work.now a.c.control c.requires.0.ready.steady c.requires.0.inside
    refl c.requires.1 in
    let o = rw c.in-None.is at (c.opening_of.ensures a.p.now v) in
    let same = fetched_same a.p.now a.t a.mode a.work.now a.c.control c.requires.0.ready.steady c.requires.0.inside
    refl c.requires.1 in
    let e = c.instruction_of-i.ensures in
    let g = still_going c.requires.0.inside c.requires.0.window in
    let l = c.requires.0.ready.steady.loaded.limits.count_most in
    let i = c.requires.0.inside in
    record {
      unexpired = record {
        fits = c.requires.0.ready.steady.fits;
        costs = c.requires.0.ready.steady.loaded.costs;
        window = c.requires.0.window;
      };
      counted = c.requires.0.ready.counted;
      place = omega arith;
      limits = c.requires.0.ready.steady.loaded.limits;
      room = λ any. rw e
          (other-room a.p.now a.t a.mode w k g same a.c.observations (length a.trace.now) c.requires.0.room o any);
      sound = rw e v.sound;
      below = rw e v.below;
      value = c.source_value-a.ensures ∙ ap (λ (y : Instr). eval (tagged_at w) (first_tokens y)) (sym e);
    }

pub returns-then-not-subset : goal.returns-then-not-subset
returns-then-not-subset c =
    let a = c.args in
    let k = a.c.control in
    let w = a.work.now in
    let n = locations a.t in
    let v = fetched_valid a.p.now a.t a.mode a.work.now a.c.control c.requires.0.ready.steady c.requires.0.inside
    refl c.requires.1 in
    let o = rw c.in-Some.is at (c.opening_of.ensures a.p.now v) in
    let same = fetched_same a.p.now a.t a.mode a.work.now a.c.control c.requires.0.ready.steady c.requires.0.inside
    refl c.requires.1 in
    let step = branch-step a.p.now a.t a.mode w k (still_going c.requires.0.inside c.requires.0.window) same o in
    let value = rw o.1 at c.source_value-a.ensures ∙ register-value _ _ in
    tried_as step (not_opened _ n _ _ _ _ c.source_value-a.result (in_state w n _ value (rw o.1 at v.below) (omega arith))
    (sym c.subset.ensures ∙ c.if-not-subset.true) refl)

pub returns-else-not-subset : goal.returns-else-not-subset
returns-else-not-subset c =
    let a = c.args in
    let k = a.c.control in
    let w = a.work.now in
    let n = locations a.t in
    let v = fetched_valid a.p.now a.t a.mode a.work.now a.c.control c.requires.0.ready.steady c.requires.0.inside
    refl c.requires.1 in
    let o = rw c.in-Some.is at (c.opening_of.ensures a.p.now v) in
    let same = fetched_same a.p.now a.t a.mode a.work.now a.c.control c.requires.0.ready.steady c.requires.0.inside
    refl c.requires.1 in
    let limits = c.requires.0.ready.steady.loaded.limits in
    let most = locations-most limits in
    let s = code_of a.p.now a.t w in
    let step = branch-step a.p.now a.t a.mode w k (still_going c.requires.0.inside c.requires.0.window) same o in
    let value = rw o.1 at c.source_value-a.ensures ∙ register-value _ _ in
    tried_as step (opened-tried _ n _ _ _ _ c.source_value-a.result (in_state w n _ value (rw o.1 at v.below) (omega arith))
    (sym c.subset.ensures ∙ c.if-not-subset.false)
    (c.open_branch.ensures.made n _ (omega arith) most s.window s.costs))

pub returns-in-None : goal.returns-in-None
returns-in-None c =
    let a = c.args in
    let k = a.c.control in
    let w = a.work.now in
    let n = locations a.t in
    let v = fetched_valid a.p.now a.t a.mode a.work.now a.c.control c.requires.0.ready.steady c.requires.0.inside
    refl c.requires.1 in
    let o = rw c.in-None.is at (c.opening_of.ensures a.p.now v) in
    let same = fetched_same a.p.now a.t a.mode a.work.now a.c.control c.requires.0.ready.steady c.requires.0.inside
    refl c.requires.1 in
    let code = code_in a.p.now a.t (drop labels w) in
    let step = other_step a.p.now a.t a.mode w k (still_going c.requires.0.inside c.requires.0.window) same o in
    let e = ap (ordinary code (machine_of w k n)) c.instruction_of-i.ensures in
    tried_as (e ∙ step) (c.carry_out.ensures.tried code (code_of a.p.now a.t w))
