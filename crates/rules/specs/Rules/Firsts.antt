-- Which observation brought a location into D, after document 02, F-6.
-- Assumes nothing.
use Rattle.std.specs.Prelude.{Bool, false, ◌||◌, cond, List, [], ◌∷◌, ℕ, zero, suc}
use Rattle.location.specs.declared.LocationSet.{LocationSet}
use Rattle.location.specs.Sets.{limit, member}
use Rattle.rules.specs.declared.Cause.{Cause}
use Rattle.rules.specs.declared.Cause.TheVariants.{Branch, Jump, Load, Store}
use Rattle.rules.specs.declared.First.{First}
use Rattle.rules.specs.Rules.Instructions.{Instr, skip, assign, load, store, jmp, beqz, cassign, spbarr}

-- "the rule concerned (branch, jump, load or store)". An instruction that observes nothing has none: Branch stands for it, with the empty
-- set, so that no report shows it.
abbrev pub cause_of : Instr → Cause
cause_of skip = Branch
cause_of (assign r e) = Branch
cause_of (load r e) = Load
cause_of (store r e) = Store
cause_of (jmp e) = Jump
cause_of (beqz r l) = Branch
cause_of (cassign r c e) = Branch
cause_of spbarr = Branch

-- the set of what a step observes, with what is reported of the locations that it brings in
pub record ObservedSet : Type 0 where
  pub report : First
  pub set : LocationSet

-- of a location that is not in D
abbrev pub no_report : First
no_report = record { index = 0; label = 0; cause = Branch }

-- "For each location in D the run reports the index of the first observation whose set holds it, the rule concerned (branch, jump, load or
-- store) and the label of that instruction.": of the sets that were observed, in order, the first that holds location l
unfoldable pub first_holding : List ObservedSet → ℕ → First
first_holding [] l = no_report
first_holding (x ∷ xs) l = cond (member x.set l) x.report (first_holding xs l)

-- whether some of the sets holds location l
unfoldable pub held : List ObservedSet → ℕ → Bool
held [] l = false
held (x ∷ xs) l = member x.set l || held xs l

-- the reports of n locations from l on, and of all
unfoldable pub firsts_from : List ObservedSet → ℕ → ℕ → List First
firsts_from xs l zero = []
firsts_from xs l (suc n) = first_holding xs l ∷ firsts_from xs (suc l) n

unfoldable pub firsts_of : List ObservedSet → List First
firsts_of xs = firsts_from xs 0 limit
