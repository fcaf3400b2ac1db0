-- `open_branch` meets its contract: the move, its observations and the counts are rule 2. Assumes nothing.
use mathlib.Core.Path.{◌∙◌}
use native.Mathlib.Omega.{arith}
use Rattle.rules.specs.Rules.Plain.{branch_to}
use Rattle.stepping.proofs.Steps.{opened}
use Rattle.stepping.proofs.open_branch.Goals as goal

pub overflow_add-next : goal.overflow_add-next
overflow_add-next c =
    let h = c.requires.0.place in omega arith

pub open_branch-opened-requires : goal.open_branch-opened-requires
open_branch-opened-requires c =
    let q = c.requires.0 in record {
      fit = q.unexpired.fits;
      left = c.remaining_window-remaining.ensures.left q.unexpired.costs q.unexpired.window;
      window_le_max_window = c.requires.4;
      opened_bound = c.requires.1;
    }

pub observe_branch-requires : goal.observe_branch-requires
observe_branch-requires c =
    omega (arith, c.requires.0.room)

pub count_step-requires : goal.count_step-requires
count_step-requires c =
    omega (arith, c.requires.0.room, c.requires.0.steps, c.well_formed.1.0)

pub returns : goal.returns
returns c =
    opened c.requires.2 c.open_branch-opened.ensures c.requires.3 c.branch_to-target.ensures
    (c.branch_to-wrong.ensures ∙ (λ i. branch_to c.args.t (c.new.ensures i) (c.index.ensures i)))
    c.remaining_window-remaining.ensures c.observe_branch.ensures c.count_step.ensures
