-- The table of window costs that a buyer supplies, in place of the fixed one.
-- Assumes nothing.
use Rattle.std.specs.Prelude.{Bool, true, false, ◌&&◌, List, [], ◌∷◌, ℕ, eqb, leb, length}
use Rattle.rules.specs.declared.Refusal.TheVariants as refusals
use Rattle.rules.specs.Rules.Limits.{kinds, min_cost, max_cost}
use Rattle.rules.specs.Rules.Runs.{Job}
use Rattle.rules.specs.Rules.JobFile.{Parsed, accepted, rejected}

-- "Each entry must be 1 to 16."
unfoldable pub entries_fit : List ℕ → Bool
entries_fit [] = true
entries_fit (c ∷ cs) = (leb min_cost c && leb c max_cost) && entries_fit cs

-- "They supply eight bytes, one per kind in kind order"
unfoldable pub costs_fit : List ℕ → Bool
costs_fit cs = eqb (length cs) kinds && entries_fit cs

-- "which replace the fixed table": all else of the job stays as it is
abbrev pub with_costs : Job → List ℕ → Job
with_costs job cs = record {
  code = record { prog = job.code.prog; cells = job.code.cells; window = job.code.window; costs = cs };
  init = job.init;
  public = job.public;
  budget = job.budget;
}

-- What was read of a job file, with the table cs: "Turned away: 14, table not eight bytes or an entry outside 1 to 16".
unfoldable pub tabled : Parsed → List ℕ → Parsed
tabled (rejected n) cs = rejected n
tabled (accepted job) cs = elim (costs_fit cs) [ false ↦ rejected refusals.Costs | true ↦ accepted (with_costs job cs) ]
