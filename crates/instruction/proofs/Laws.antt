-- How the lowering of a window meets the rules.
-- Assumes nothing.
use mathlib.Core.Path.{◌≡◌, refl}
use mathlib.Core.Bool.{false}
use mathlib.Core.List.{List}
use Prim.Native.Nat.{ℕ, ◌-◌}
use lib.Dec.{eqb}
use lib.ListN.{get_or}
use Rattle.rules.specs.Rules.Instructions.{kind}
use Rattle.rules.specs.Rules.Plain.{Code}
use Rattle.rules.specs.Rules.Mispredicting.{remaining}
use Rattle.instruction.specs.declared.Instruction.{Instruction}
use Rattle.instruction.specs.declared.Instruction.TheVariants.{Skip, Assign, Load, Store, Jump, BranchZero, AssignIf, Barrier}
use Rattle.instruction.specs.Meaning.{meaning}

-- ---- windows: c is the entry of the instruction i in the table of costs
other_kind : (p : List ℕ) (i : Instruction) → (i ≡ Barrier → ⊥) → eqb (kind (meaning p i)) 7 ≡ false
other_kind p Skip n = refl
other_kind p (Assign r e) n = refl
other_kind p (Load r e) n = refl
other_kind p (Store r e) n = refl
other_kind p (Jump e) n = refl
other_kind p (BranchZero r l) n = refl
other_kind p (AssignIf r c e) n = refl
other_kind p Barrier n = absurd (n refl)

pub remaining-other : (p : List ℕ) (i : Instruction) (code : Code) (v c : ℕ) → (i ≡ Barrier → ⊥) → c ≡ get_or code.costs (kind (meaning p i)) 0
    → v - c ≡ remaining code (meaning p i) v
unfolding remaining
remaining-other p i code v c n e = rw (← e, other_kind p i n)
