-- The bounds on open branches and live changes, for the runs of an accepted job file by an accepted table.
-- Assumes nothing.
use Rattle.std.specs.Prelude.{◌≡◌, List, ℕ}
use Rattle.std.proofs.Common.{ap}
use Rattle.rules.specs.Rules.Runs.{Job}
use Rattle.rules.specs.Rules.JobFile.{accepted, parse}
use Rattle.rules.specs.Rules.Costs.{tabled}
use Rattle.rules.specs.Rules.Pairs.{with_state}
use Rattle.rules.specs.Rules.Demands.{WrongPathsBounded}
use Rattle.rules.proofs.Theorems.Undo.{live_bounded, last_live}
use Rattle.rules.proofs.Theorems.Costs.{fit-positive, tabled_of}
use Rattle.rules.specs.Theorems.Bounds.{PositiveCosts}

-- an accepted job has the costs of its table, which are all at least 1
tabled-positive : (f costs : List ℕ) (job : Job) → tabled (parse f) costs ≡ accepted job → PositiveCosts job.code.costs
tabled-positive f costs job e =
    let t = tabled_of f costs job e in
    rw (ap (λ (j : Job). j.code.costs) t.same) (fit-positive costs t.fits)

-- "At most w + 1 branches are open, and a live wrong path holds at most w changes of a place.": whatever the state
pub wrong_paths_bounded : (f costs : List ℕ) → WrongPathsBounded f costs
unfolding with_state
wrong_paths_bounded f costs = record {
  bounded = λ job e vs l. let b = live_bounded (with_state job vs) (tabled-positive f costs job e) l in (b.few-branches, b.few-changes);
  stops = λ job e vs budget room. last_live (with_state job vs) room budget;
}
