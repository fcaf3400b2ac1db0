-- The rules' machine in the working words: a function of the words and of the control, so that whatever the words hold is some
-- machine. What a branch saved is what undoing the changes since gives.
-- Assumes nothing.
use Rattle.std.specs.Prelude.{◌≡◌, refl, cond, List, [], ◌∷◌, ◌++◌, ℕ, zero, suc, ◌+◌, ◌-◌, ◌<◌, ◌≤◌, ltb, length}
use Rattle.std.proofs.Common.{ap}
use Rattle.location.specs.Sets.{limit}
use Rattle.rules.specs.declared.Tagged.{Tagged}
pub use Rattle.rules.specs.Rules.Limits.{max_window}
use Rattle.rules.specs.Rules.Calls.{working_words}
use Rattle.rules.specs.Rules.Plain.{State, Entry, put, with_outside}
use Rattle.rules.specs.Rules.Mispredicting.{Branch, Machine}
use Rattle.rules.specs.Rules.Changes.{Change, located, replaced, added, reworded, restore}
use Rattle.work.specs.declared.OpenBranch.{OpenBranch}
use Rattle.work.specs.declared.machine.Control.{Control}
use Rattle.work.specs.Layout.{operands}
use Rattle.work.specs.Words.{tagged_at, count_in, entry_at, number_at, change_at, branch_at}

-- the operands of n locations from l on
abbrev pub locations_from : List ℕ → ℕ → ℕ → List Tagged
locations_from w l zero = []
locations_from w l (suc n) = tagged_at w l ∷ locations_from w (suc l) n

-- n entries of the table from number i on, and all that there are
abbrev pub entries_from : List ℕ → ℕ → ℕ → List Entry
entries_from w i zero = []
entries_from w i (suc n) = entry_at w i ∷ entries_from w (suc i) n

abbrev pub table_in : List ℕ → List Entry
table_in w = entries_from w 0 (count_in w)

-- the state of the first n locations
abbrev pub state_in : List ℕ → ℕ → State
state_in w n = record { inside = locations_from w 0 n; outside = table_in w }

-- a state with another word as operand number l: at a location, or in an entry of the table
abbrev pub with_operand : State → ℕ → Tagged → State
with_operand σ l v = cond (ltb l limit) (put σ l v) (with_outside σ (reworded σ.outside (l - limit) v))

-- with one entry more
abbrev pub with_entry : State → ℕ → Tagged → State
with_entry σ a v = with_outside σ (σ.outside ++ (record { address = a; word = v } ∷ []))

-- the last j of k changes, the last one first, where g i is change number i
abbrev pub last_changes : (ℕ → Change) → ℕ → ℕ → List Change
last_changes g k zero = []
last_changes g zero (suc j) = []
last_changes g (suc k) (suc j) = g k ∷ last_changes g k j

-- the state when the log had `mark` changes, where now it has k
abbrev pub saved_at : (ℕ → Change) → State → ℕ → ℕ → State
saved_at g σ k mark = restore (last_changes g k (k - mark)) σ

-- the d open branches, the last one first, where e i is what the words hold of branch number i, the last one's window is v, and the log has
-- k changes
abbrev pub branches_of : (ℕ → OpenBranch) → (ℕ → Change) → State → ℕ → ℕ → ℕ → List Branch
branches_of e g σ v k zero = []
branches_of e g σ v k (suc d) =
    record { id = (e d).id; saved = saved_at g σ k (e d).mark; target = (e d).target; window = v }
    ∷ branches_of e g (saved_at g σ k (e d).mark) (e d).outer (e d).mark d

pub branches-length : (e : ℕ → OpenBranch) (g : ℕ → Change) (σ : State) (v k d : ℕ) → length (branches_of e g σ v k d) ≡ d
branches-length e g σ v k zero = refl
branches-length e g σ v k (suc d) = ap suc (branches-length e g (saved_at g σ k (e d).mark) (e d).outer (e d).mark d)

-- the machine with n locations
abbrev pub machine_of : List ℕ → Control → ℕ → Machine
machine_of w c n = record {
  state = state_in w n;
  place = c.place;
  branches = branches_of (branch_at w) (change_at w) (state_in w n) c.window c.log c.depth;
  opened = c.opened;
}

-- Of d open branches, the last one with the window v, and a log of k changes: the marks rise with the branches; with nothing open
-- the log is empty and the window is not 0. A change or a branch costs the top at least 1 of its window, so that there are at most
-- 200 changes and 201 branches, and changes and branches are at most 201 together.
abbrev pub WindowBound : (ℕ → OpenBranch) → ℕ → ℕ → ℕ → Type 0
WindowBound e v zero k = (k ≡ 0) × (0 < v)
WindowBound e v (suc d) k = ((e d).mark ≤ k) × (k + d + v ≤ max_window) × WindowBound e (e d).outer d (e d).mark

-- how many entries there were before a change that left n
abbrev pub count_before : Change → ℕ → ℕ
count_before (located l t) n = n
count_before (replaced i t) n = n
count_before (added m) n = m

-- Of a log of k changes, where change number i is g i, of operand number f i, and the table now has n entries: there is such an operand, and
-- no change took an entry away.
abbrev pub LogBound : (ℕ → ℕ) → (ℕ → Change) → ℕ → ℕ → Type 0
LogBound f g zero n = Unit {0}
LogBound f g (suc k) n = (f k ≤ operands) × (count_before (g k) n ≤ n) × LogBound f g k (count_before (g k) n)

-- The working area is long enough, the log and the branches do not meet, no more branches are open than were opened, and the log can be
-- undone without a test.
pub record Fit (w : List ℕ) (c : Control) : Type 0 where
  pub room : working_words ≤ length w
  pub bound : WindowBound (branch_at w) c.window c.depth c.log
  pub opened : c.depth ≤ c.opened
  pub log : LogBound (number_at w) (change_at w) c.log (count_in w)

-- v may be left of the window: less than there was with a branch open, and not 0 with none.
pub record Left (c : Control) (v : ℕ) : Type 0 where
  pub less : 0 < c.depth → v < c.window
  pub some : c.depth ≡ 0 → 0 < v
