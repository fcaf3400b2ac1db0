-- "a live wrong path holds at most w changes of a place": the changes that instructions make, undoing them, and the undo log of those
-- that are live at each machine that a run comes to. The working words keep such a log.
-- Assumes nothing.
use Rattle.std.specs.Prelude.{◌≡◌, false, cond, List, [], ◌∷◌, ◌++◌, ℕ, zero, suc, ◌+◌, eqb, ltb, length, take}
use Rattle.location.specs.Sets.{register_location, cell_location, empty}
use Rattle.rules.specs.declared.Tagged.{Tagged}
use Rattle.rules.specs.Rules.Expressions.{tagged, eval}
use Rattle.rules.specs.Rules.Instructions.{Instr, skip, assign, load, store, jmp, beqz, cassign, spbarr, branching, other, branch_view}
use Rattle.rules.specs.Rules.Outside.{recall, remembers}
use Rattle.rules.specs.Rules.Plain.{State, Entry, at, put, with_outside, Code, fetch}
use Rattle.rules.specs.Rules.Mispredicting.{Machine, step}
use Rattle.rules.specs.Rules.Runs.{over, Job, first}

-- What a change was, and how it is undone: a location or an entry of the table, by its number, with its word of before; or an entry that
-- was added where there were so many.
pub data Change : Type 0 where
  located : ℕ → Tagged → Change
  replaced : ℕ → Tagged → Change
  added : ℕ → Change

abbrev pub change_of : State → ℕ → Change
change_of σ l = located l (at σ l)

-- the number of the entry with an address, counted from 0; where there is none, how many entries there are
unfoldable pub position : List Entry → ℕ → ℕ
position [] a = 0
position (e ∷ es) a = cond (eqb e.address a) 0 (suc (position es a))

-- the change that a store at an address makes of the table
unfoldable pub table_change : List Entry → ℕ → Change
table_change es a = cond (remembers es a) (replaced (position es a) (recall (tagged 0 empty) es a)) (added (length es))

-- entry number i with another word
unfoldable pub reworded : List Entry → ℕ → Tagged → List Entry
reworded [] i t = []
reworded (e ∷ es) zero t = record { address = e.address; word = t } ∷ es
reworded (e ∷ es) (suc i) t = e ∷ reworded es i t

-- The change of a place that an instruction makes, if it makes one: a register, a cell or a remembered address; a conditional assignment
-- not taken changes the register's set.
unfoldable pub changes : Code → State → Instr → List Change
changes code σ skip = []
changes code σ (assign r e) = change_of σ (register_location r) ∷ []
changes code σ (load r e) = change_of σ (register_location r) ∷ []
changes code σ (store r e) =
    let a = eval (at σ) e in
    cond (ltb a.value code.cells) (change_of σ (cell_location a.value)) (table_change σ.outside a.value) ∷ []
changes code σ (jmp e) = []
changes code σ (beqz r l) = []
changes code σ (cassign r c e) = change_of σ (register_location r) ∷ []
changes code σ spbarr = []

-- the state before a change
abbrev pub revert : Change → State → State
revert (located l t) σ = put σ l t
revert (replaced i t) σ = with_outside σ (reworded σ.outside i t)
revert (added n) σ = with_outside σ (take n σ.outside)

-- the state before some changes, the newest first
abbrev pub restore : List Change → State → State
restore [] σ = σ
restore (u ∷ us) σ = restore us (revert u σ)

-- ---- the changes that are live
-- The undo log, in parts: for each open branch, the top first, the changes made while it was the top, the newest first.
abbrev pub UndoLog : Type 0
UndoLog = List (List Change)

unfoldable pub size : UndoLog → ℕ
size [] = 0
size (u ∷ us) = length u + size us

unfoldable pub with_changes : List Change → UndoLog → UndoLog
with_changes c [] = []
with_changes c (u ∷ us) = (c ++ u) ∷ us

unfoldable pub dropped : UndoLog → UndoLog
dropped [] = []
dropped (u ∷ us) = us

-- a branch opens a part; any other instruction adds its change to the newest
unfoldable pub log_forward : Code → State → Instr → UndoLog → UndoLog
log_forward code σ i us = elim (branch_view i) [ branching r l ↦ [] ∷ us | other ↦ with_changes (changes code σ i) us ]

-- The log after a step that makes so many rollbacks, 0 or 1: a rollback drops the newest part.
unfoldable pub log_by : ℕ → Code → Machine → UndoLog → UndoLog
log_by zero code M us = log_forward code M.state (fetch code M.place) us
log_by (suc k) code M us = dropped us

unfoldable pub log_after : Code → Machine → UndoLog → UndoLog
log_after code M us = log_by (step code M).back code M us

-- the machines that a mispredicting run comes to, whatever its budget and room, with the changes that are live there
pub data Live (job : Job) : Machine → UndoLog → Type 0 where
  live_first : Live job (first job) []
  live_next : {M : Machine} {us : UndoLog} → over job.code M ≡ false → Live job M us
      → Live job (step job.code M).next (log_after job.code M us)
