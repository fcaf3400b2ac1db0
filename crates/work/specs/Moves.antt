-- What the functions over the machine promise.
-- Assumes nothing.
use Rattle.std.specs.Prelude.{◌≡◌, List, [], ◌∷◌, ℕ, suc, ◌+◌, ◌≤◌, drop}
use Rattle.location.specs.Sets.{limit}
use Rattle.rules.specs.Rules.Plain.{State}
use Rattle.rules.specs.Rules.Mispredicting.{Branch, Machine, rolling}
use Rattle.work.specs.declared.machine.Control.{Control}
use Rattle.work.specs.declared.machine.RolledBack.{RolledBack}
use Rattle.work.specs.Layout.{reports}
use Rattle.work.specs.Machines.{machine_of, Fit}

-- the branches with v left of the top's window
abbrev pub lower_to : ℕ → List Branch → List Branch
lower_to v [] = []
lower_to v (b ∷ bs) = record { id = b.id; saved = b.saved; target = b.target; window = v } ∷ bs

-- the machine after rule 3: with state σ at place p, and v left of the top's window
abbrev pub ordinary_next : Machine → State → ℕ → ℕ → Machine
ordinary_next M σ p v = record { state = σ; place = p; branches = lower_to v M.branches; opened = M.opened }

-- the control after it, where neither a location nor the table changes
abbrev pub gone : Control → ℕ → ℕ → Control
gone c p v = record { place = p; depth = c.depth; log = c.log; opened = c.opened; window = v }

-- and where one of them does, which is logged
abbrev pub logged_to : Control → ℕ → ℕ → Control
logged_to c p v = record { place = p; depth = c.depth; log = c.log + 1; opened = c.opened; window = v }

-- a new branch's window: with nothing open it is w, else what is left of the old top's
abbrev pub window_on : List Branch → ℕ → ℕ → ℕ
window_on [] w v = w
window_on (b ∷ bs) w v = v

-- the machine after rule 2: at place p, with a new branch on top, and v left of the old top's window
abbrev pub opening_next : Machine → ℕ → ℕ → ℕ → ℕ → Machine
opening_next M p target w v = record {
  state = M.state;
  place = p;
  branches = record { id = M.opened; saved = M.state; target = target; window = window_on M.branches w v } ∷ lower_to v M.branches;
  opened = suc M.opened;
}

-- The words of one machine become those of the next, for any number of locations. The words past the machine's stay.
pub record Moves (w w' : List ℕ) (c c' : Control) (next : Machine → Machine) : Type 0 where
  pub machine : (n : ℕ) → n ≤ limit → machine_of w' c' n ≡ next (machine_of w c n)
  pub fits : Fit w' c'
  pub frame : drop reports w' ≡ drop reports w

-- Rule 1 on the top branch b.
pub record RollsBack (w w' : List ℕ) (c : Control) (r : RolledBack) : Type 0 where
  pub machine : (n : ℕ) (b : Branch) (bs : List Branch) → n ≤ limit → (machine_of w c n).branches ≡ b ∷ bs
      → machine_of w' r.control n ≡ (rolling (machine_of w c n) b bs).next
  pub id : (n : ℕ) (b : Branch) (bs : List Branch) → (machine_of w c n).branches ≡ b ∷ bs → r.id ≡ b.id
  pub target : (n : ℕ) (b : Branch) (bs : List Branch) → (machine_of w c n).branches ≡ b ∷ bs → r.target ≡ b.target
  pub fits : Fit w' r.control
  pub frame : drop reports w' ≡ drop reports w
