-- Where a run stands, and what it has come to: the code's progress, as what the rules gather.
-- Assumes nothing.
use Rattle.std.specs.Prelude.{List, ℕ, zero, suc, ◌+◌, ◌-◌}
use Rattle.location.specs.declared.LocationSet.{LocationSet}
use Rattle.location.specs.Sets.{union}
use Rattle.rules.specs.Rules.Instructions.{Observation}
use Rattle.rules.specs.Rules.Firsts.{ObservedSet}
use Rattle.rules.specs.Rules.Mispredicting.{Machine}
use Rattle.rules.specs.Rules.Promises.{LentArea}
use Rattle.rules.specs.Rules.Runs.{Gathered}
use Rattle.work.specs.declared.machine.Control.{Control}
use Rattle.work.specs.Machines.{machine_of}
use Rattle.stepping.specs.declared.Progress.{Progress}

-- Where a run stands: the working words, the trace area and the progress.
pub record Standing : Type 0 where
  pub work : List ℕ
  pub trace : List ℕ
  pub progress : Progress

abbrev pub standing : List ℕ → List ℕ → Progress → Standing
standing w t c = record { work = w; trace = t; progress = c }

-- where it stands when a call begins, and when it returns: of the lent areas as a contract names them
abbrev pub standing_before : LentArea → LentArea → Progress → Standing
standing_before work trace c = standing work.entry.now trace.entry.now c

abbrev pub standing_after : LentArea → LentArea → Progress → Standing
standing_after work trace c = standing work.exit.now trace.exit.now c

-- the rules' machine there, with n locations
abbrev pub machine_at : Standing → ℕ → Machine
machine_at x n = machine_of x.work x.progress.control n

-- the branches that were rolled back: every other one that was opened is open
abbrev pub rolled_back : Control → ℕ
rolled_back k = k.opened - k.depth

-- what the rules gather, with the observations that stand in the trace area, and the sets that were observed
abbrev pub gathered_of : List Observation → List ObservedSet → Progress → Gathered
gathered_of os xs c = record {
  trace = os;
  steps = c.steps;
  rollbacks = rolled_back c.control;
  full = c.full;
  plain = c.plain;
  sets = xs;
}

-- the plain set, with so many branches open
abbrev pub gather_at : ℕ → LocationSet → LocationSet → LocationSet
gather_at zero plain s = union plain s
gather_at (suc d) plain s = plain

-- after a store that stops the run, at an address that rests on a set
abbrev pub progress_unmade : Progress → LocationSet → Progress
progress_unmade c seen = record {
  control = c.control;
  observations = c.observations;
  steps = c.steps;
  full = union c.full seen;
  plain = gather_at c.control.depth c.plain seen;
}

-- after a step that leads to a control, makes so many observations, and rests on a set
abbrev pub progress_after : Progress → Control → ℕ → LocationSet → Progress
progress_after c control observations seen = record {
  control = control;
  observations = c.observations + observations;
  steps = c.steps + 1;
  full = union c.full seen;
  plain = gather_at c.control.depth c.plain seen;
}
