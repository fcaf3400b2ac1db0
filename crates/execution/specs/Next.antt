-- What is next in a run: the rules' step in each of the two runs, and which of the rules it is.
-- Assumes nothing.
use Rattle.std.specs.Prelude.{◌≡◌, Bool, true, false, ◌||◌, List, [], ◌∷◌, ℕ, zero, suc, eqb, leb, Option, Some, None}
use Rattle.rules.specs.Rules.Instructions.{Instr, beqz}
use Rattle.rules.specs.Rules.Plain.{Code}
use Rattle.rules.specs.Rules.Mispredicting.{Branch, Machine, Step, ordinary, forward, step, plain_step}
use Rattle.execution.specs.declared.Mode.{Mode}
use Rattle.execution.specs.declared.Mode.TheVariants as modes
use Rattle.execution.specs.declared.rule.Rule.{Rule}
use Rattle.execution.specs.declared.rule.Rule.TheVariants as rule
use Rattle.location.specs.declared.Label.{Label}

-- the rules' step of each of the two runs
abbrev pub step_by : Mode → Code → Machine → Step
step_by modes.Plain code M = plain_step code M
step_by modes.Mispredicting code M = step code M

-- an instruction in each of the two runs: rule 2 is for the mispredicting one
abbrev pub forward_by : Mode → Code → Machine → Instr → Step
forward_by modes.Plain code M i = ordinary code M i
forward_by modes.Mispredicting code M i = forward code M i

-- whether a machine with d branches open, at place p of a program that ends at `last`, is at END with nothing open
abbrev pub over_at : ℕ → ℕ → ℕ → Bool
over_at zero last p = leb last p
over_at (suc d) last p = false

-- whether rule 1 is the one
abbrev pub expired_on : ℕ → ℕ → List Branch → Bool
expired_on last p [] = false
expired_on last p (b ∷ bs) = eqb b.window 0 || leb last p

-- what is next, by these two tests
abbrev pub rule_by : Bool → Bool → Rule
rule_by true expired = rule.Over
rule_by false true = rule.RollBack
rule_by false false = rule.Advance

-- of a machine with d branches open, in a program that ends at `last`
abbrev pub rule_at : ℕ → ℕ → Machine → Rule
rule_at last d M = rule_by (over_at d last M.place) (expired_on last M.place M.branches)

-- What an instruction opens: a branch is rule 2's, in the mispredicting run, and nothing leaves it to rule 3.
abbrev pub Opens : Mode → Instr → Option (ℕ × Label) → Type 0
Opens mode i (Some x) = (mode ≡ modes.Mispredicting) × (i ≡ beqz x.0 x.1.0)
Opens mode i None = (code : Code) (M : Machine) → forward_by mode code M i ≡ ordinary code M i
