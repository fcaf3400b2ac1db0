-- One step of the mispredicting run, after document 01's three rules, and one step of the plain run. The machine's frame (branches,
-- windows, rollbacks) is the same for any type W of words; the steps are over words with their sets.
-- Assumes nothing.
use Rattle.std.specs.Prelude.{Bool, false, ◌||◌, cond, List, [], ◌∷◌, ℕ, suc, ◌-◌, eqb, leb, get_or}
use Rattle.location.specs.declared.LocationSet.{LocationSet}
use Rattle.location.specs.Sets.{register_location, empty}
use Rattle.rules.specs.declared.Cause.{Cause}
use Rattle.rules.specs.Rules.Instructions.{Instr, skip, beqz, kind, is_barrier, branching, other, branch_view, Observation, start, rollback, pc}
use Rattle.rules.specs.declared.Tagged.{Tagged}
use Rattle.rules.specs.Rules.Firsts.{cause_of}
use Rattle.rules.specs.Rules.Plain.{StateOf, EffectOf, at, Code, end_place, fetch, exec, branch_to}

-- "a stack of open branches, each with its id, saved registers and memory, true target and remaining window"
pub record BranchOf (W : Type 0) : Type 0 where
  pub id : ℕ
  pub saved : StateOf W
  pub target : ℕ
  pub window : ℕ

abbrev pub Branch : Type 0
Branch = BranchOf Tagged

-- `branches` are the open ones, the top first; `opened` counts all that were opened.
pub record MachineOf (W : Type 0) : Type 0 where
  pub state : StateOf W
  pub place : ℕ
  pub branches : List (BranchOf W)
  pub opened : ℕ

abbrev pub Machine : Type 0
Machine = MachineOf Tagged

-- the machine after a step, its observations, the set of what is observed and the rule concerned, 1 for a rollback, and whether it is a
-- store that needs one address too many
pub record StepOf (W : Type 0) : Type 0 where
  pub next : MachineOf W
  pub obs : List Observation
  pub seen : LocationSet
  pub cause : Cause
  pub back : ℕ
  pub overfull : Bool

abbrev pub Step : Type 0
Step = StepOf Tagged

-- "Lowering takes the kind's entry in a constant table of eight window costs, down to 0 at least"; "spbarr sets it to 0". The table is the
-- one that the steps are given: the fixed one, or the buyer's.
-- This is the one place where a window is lowered.
unfoldable pub remaining : Code → Instr → ℕ → ℕ
remaining code i v = cond (is_barrier i) 0 (v - get_or code.costs (kind i) 0)

abbrev pub lowered : {W : Type 0} → Code → Instr → BranchOf W → BranchOf W
lowered code i b = record { id = b.id; saved = b.saved; target = b.target; window = remaining code i b.window }

-- "Only the top changes."
unfoldable pub lower : {W : Type 0} → Code → Instr → List (BranchOf W) → List (BranchOf W)
lower code i [] = []
lower code i (b ∷ bs) = lowered code i b ∷ bs

-- rule 3 for an instruction with the effect x
abbrev pub step_with : {W : Type 0} → Code → MachineOf W → Instr → EffectOf W → StepOf W
step_with code M i x = record {
  next = record { state = x.state; place = x.place; branches = lower code i M.branches; opened = M.opened };
  obs = x.obs;
  seen = x.seen;
  cause = cause_of i;
  back = 0;
  overfull = x.overfull;
}

-- Rule 3: "Any other instruction: as in the plain run; the top's window is lowered". With nothing open it is the plain step.
unfoldable pub ordinary : Code → Machine → Instr → Step
ordinary code M i = step_with code M i (exec code M.state M.place i)

-- "With nothing open its window is w. Otherwise the old top's window v is lowered first and the new window is what remains."
unfoldable pub new_window : {W : Type 0} → Code → List (BranchOf W) → ℕ
new_window code [] = code.window
new_window code (b ∷ bs) = b.window

-- Rule 2: "open a branch whose id is the count of branches opened before. Go to the wrong place."
unfoldable pub opening : Code → Machine → ℕ → ℕ → Step
opening code M r l =
    let t = at M.state (register_location r) in
    let next = suc M.place in
    let bs = lower code (beqz r l) M.branches in
    let b : Branch = record { id = M.opened; saved = M.state; target = branch_to t l next; window = new_window code bs } in
    record {
      next = record { state = M.state; place = branch_to t next l; branches = b ∷ bs; opened = suc M.opened };
      obs = start M.opened ∷ pc (branch_to t next l) ∷ [];
      seen = t.deps;
      cause = cause_of (beqz r l);
      back = 0;
      overfull = false;
    }

-- rules 2 and 3: "beqz", and "any other instruction"
unfoldable pub forward : Code → Machine → Instr → Step
forward code M i = elim (branch_view i) [ branching r l ↦ opening code M r l | other ↦ ordinary code M i ]

-- Rule 1: "restore the top's registers and memory, go to its true target, drop it." "Rollback restores sets too."; "a rollback restores
-- the table too". No set is observed.
unfoldable pub rolling : {W : Type 0} → MachineOf W → BranchOf W → List (BranchOf W) → StepOf W
rolling M b bs = record {
  next = record { state = b.saved; place = b.target; branches = bs; opened = M.opened };
  obs = rollback b.id ∷ pc b.target ∷ [];
  seen = empty;
  cause = cause_of skip;
  back = 1;
  overfull = false;
}

-- "Top window 0, or END with a branch open"
unfoldable pub expired : {W : Type 0} → Code → ℕ → BranchOf W → Bool
expired code p b = eqb b.window 0 || leb (end_place code) p

unfoldable pub step_on : Code → Machine → List Branch → Step
step_on code M [] = forward code M (fetch code M.place)
step_on code M (b ∷ bs) = cond (expired code M.place b) (rolling M b bs) (forward code M (fetch code M.place))

-- "One step, in this order"
unfoldable pub step : Code → Machine → Step
step code M = step_on code M M.branches

-- "The plain run follows the table"
unfoldable pub plain_step : Code → Machine → Step
plain_step code M = ordinary code M (fetch code M.place)
