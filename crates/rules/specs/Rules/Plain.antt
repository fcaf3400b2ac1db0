-- The machine's state, and what one instruction does to it, shows and rests on: the plain step.
-- Assumes nothing.
use Rattle.std.specs.Prelude.{Bool, false, cond, List, [], ◌∷◌, ℕ, suc, min, eqb, ltb, length, get_or, set}
use Rattle.location.specs.declared.LocationSet.{LocationSet}
use Rattle.location.specs.Sets.{register_location, cell_location, empty, single, union}
use Rattle.rules.specs.declared.Tagged.{Tagged}
use Rattle.rules.specs.Rules.Expressions.{tagged, eval}
use Rattle.rules.specs.Rules.Instructions.{Instr, skip, assign, load, store, jmp, beqz, cassign, spbarr, Observation, pc, loaded, stored}
use Rattle.rules.specs.Rules.Outside.{EntryOf, recall, remember, overfull}

-- "Registers and cells are also numbered as locations": `inside` has a word for each location in order; `outside` has what is
-- remembered of stores outside the image. What a word is, the frame of the machine leaves open: here it is a word with its set.
pub record StateOf (W : Type 0) : Type 0 where
  pub inside : List W
  pub outside : List (EntryOf W)

abbrev pub State : Type 0
State = StateOf Tagged

abbrev pub Entry : Type 0
Entry = EntryOf Tagged

unfoldable pub at : State → ℕ → Tagged
at σ l = get_or σ.inside l (tagged 0 empty)

unfoldable pub put : State → ℕ → Tagged → State
put σ l t = record { inside = set σ.inside l t; outside = σ.outside }

-- the state with another table
abbrev pub with_outside : State → List Entry → State
with_outside σ es = record { inside = σ.inside; outside = es }

-- "Each register and cell carries a set of locations, at first itself alone." The words from location l on.
unfoldable pub own_from : ℕ → List ℕ → List Tagged
own_from l [] = []
own_from l (v ∷ vs) = tagged v (single l) ∷ own_from (suc l) vs

-- the state that a run starts with, of the words of its locations: "Both runs of a comparison start with nothing outside"
unfoldable pub first_state : List ℕ → State
first_state vs = record { inside = own_from 0 vs; outside = [] }

-- the words without their sets
unfoldable pub values : List Tagged → List ℕ
values [] = []
values (t ∷ ts) = t.value ∷ values ts

-- What the steps of a job are given: the program, the number of cells, the window, and the table of window costs.
pub record Code : Type 0 where
  pub prog : List Instr
  pub cells : ℕ
  pub window : ℕ
  pub costs : List ℕ

-- "Instructions have labels 0 to n−1 in order; a place of n or more is END, written n."
unfoldable pub end_place : Code → ℕ
end_place code = length code.prog

unfoldable pub fetch : Code → ℕ → Instr
fetch code p = get_or code.prog p skip

-- a word whose set is joined by another
abbrev pub joined : Tagged → LocationSet → Tagged
joined t s = tagged t.value (union s t.deps)

-- "the union of the address's set and the cell's (no cell: the address's)", also of an address that is remembered; "Unwritten addresses
-- still read 0 with the address's set"
unfoldable pub loaded_from : Code → State → Tagged → Tagged
loaded_from code σ a =
    cond (ltb a.value code.cells) (joined (at σ (cell_location a.value)) a.deps)
    (joined (recall (tagged 0 empty) σ.outside a.value) a.deps)

-- "a store gives the union of the address's and the register's"; "A store at m or above is now remembered, with its set"
unfoldable pub stored_to : Code → State → Tagged → Tagged → State
stored_to code σ a t =
    cond (ltb a.value code.cells) (put σ (cell_location a.value) (joined t a.deps))
    (with_outside σ (remember σ.outside a.value (joined t a.deps)))

-- whether a store at this address "would need a 65th address"
unfoldable pub store_overfull : Code → State → Tagged → Bool
store_overfull code σ a = cond (ltb a.value code.cells) false (overfull σ.outside a.value)

-- "A conditional assignment joins the condition's set to that of the new value if assigned, to the register's own if not."
unfoldable pub chosen : Tagged → Tagged → Tagged → Tagged
chosen c new old = cond (eqb c.value 0) (joined old c.deps) (joined new c.deps)

-- "to the label if the register is 0, else to the next"
unfoldable pub branch_to : Tagged → ℕ → ℕ → ℕ
branch_to t label next = cond (eqb t.value 0) label next

-- the state and place after an instruction, its observations, the set of what is observed, and whether it is a store that needs one
-- address too many
pub record EffectOf (W : Type 0) : Type 0 where
  pub state : StateOf W
  pub place : ℕ
  pub obs : List Observation
  pub seen : LocationSet
  pub overfull : Bool

abbrev pub Effect : Type 0
Effect = EffectOf Tagged

-- "All but jmp and beqz go on to the next label."
abbrev pub silent : State → ℕ → Effect
silent σ p = record { state = σ; place = suc p; obs = []; seen = empty; overfull = false }

abbrev pub load_effect : Code → State → ℕ → ℕ → Tagged → Effect
load_effect code σ p r a = record {
  state = put σ (register_location r) (loaded_from code σ a);
  place = suc p;
  obs = loaded a.value ∷ [];
  seen = a.deps;
  overfull = false;
}

abbrev pub store_effect : Code → State → ℕ → ℕ → Tagged → Effect
store_effect code σ p r a = record {
  state = stored_to code σ a (at σ (register_location r));
  place = suc p;
  obs = stored a.value ∷ [];
  seen = a.deps;
  overfull = store_overfull code σ a;
}

-- a jump or branch to a place, which rests on t
abbrev pub go_effect : State → ℕ → Tagged → Effect
go_effect σ p t = record { state = σ; place = p; obs = pc p ∷ []; seen = t.deps; overfull = false }

-- the table's column "effect"
unfoldable pub exec : Code → State → ℕ → Instr → Effect
exec code σ p skip = silent σ p
exec code σ p (assign r e) = silent (put σ (register_location r) (eval (at σ) e)) p
exec code σ p (load r e) = load_effect code σ p r (eval (at σ) e)
exec code σ p (store r e) = store_effect code σ p r (eval (at σ) e)
exec code σ p (jmp e) = go_effect σ (min (eval (at σ) e).value (end_place code)) (eval (at σ) e)
exec code σ p (beqz r l) = go_effect σ (branch_to (at σ (register_location r)) l (suc p)) (at σ (register_location r))
exec code σ p (cassign r c e) =
    silent (put σ (register_location r) (chosen (eval (at σ) c) (eval (at σ) e) (at σ (register_location r)))) p
exec code σ p spbarr = silent σ p
