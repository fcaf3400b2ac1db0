-- What contracts of the run say of a job that was accepted: its numbers are within the limits, and no instruction is free.
-- Assumes nothing.
use Rattle.std.specs.Prelude.{List, ℕ, ◌≤◌, get_or}
use Rattle.rules.specs.declared.Trailer.{Trailer}
use Rattle.rules.specs.Rules.Limits.{max_instructions, max_cells, max_window, max_budget}
use Rattle.rules.specs.Rules.Instructions.{Instr, kind}

-- "n 1 to 512, m 0 to 240, w 0 to 200, b 0 to 1,000,000"
pub record Limits (t : Trailer) : Type 0 where
  pub count_most : t.count ≤ max_instructions
  pub cells : t.cells ≤ max_cells
  pub window : t.window ≤ max_window
  pub budget : t.budget ≤ max_budget

-- by the table every instruction costs at least 1
pub record PositiveCosts (costs : List ℕ) : Type 0 where
  pub each : (i : Instr) → 1 ≤ get_or costs (kind i) 0
