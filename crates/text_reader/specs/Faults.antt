-- The line of a text's first fault, counted from 1: the first line that cannot be read, or whose instruction is one too many or breaks
-- the postfix rule or the rule of branch labels; of a text without instruction, its last line.
-- Assumes nothing.
use Rattle.std.specs.Prelude.{Bool, true, false, not, ◌&&◌, cond, List, [], ◌∷◌, ℕ, ◌+◌, eqb, ltb, length}
use Rattle.rules.specs.Rules.Limits.{max_instructions}
use Rattle.rules.specs.Rules.Instructions.{Instr}
use Rattle.rules.specs.Rules.JobFile.{postfix, branch_label_holds}
use Rattle.rules.specs.Rules.Parts.{parts, lines_of}
use Rattle.rules.specs.Rules.TextReading.{Line, blank, holds, unreadable, line_of}

-- ---- the lines that are not blank
abbrev pub held_line : Line → ℕ
held_line blank = 0
held_line (holds x) = 1
held_line unreadable = 1

unfoldable pub held_lines : List (List ℕ) → ℕ
held_lines [] = 0
held_lines (l ∷ ls) = held_line (line_of (parts l)) + held_lines ls

-- ---- faults
-- what an instruction that was read has still to pass: it has label i, of n
abbrev pub passes : ℕ → ℕ → Instr → Bool
passes n i x = postfix x && branch_label_holds n i x

-- a line after i instructions, of n
abbrev pub faulty : ℕ → ℕ → Line → Bool
faulty n i blank = false
faulty n i (holds x) = not (ltb i max_instructions && passes n i x)
faulty n i unreadable = true

-- the line of the first fault, of which line k is the first, after i instructions of n; 0 where there is none
unfoldable pub first_fault : ℕ → ℕ → ℕ → List (List ℕ) → ℕ
first_fault n i k [] = 0
first_fault n i k (l ∷ ls) =
    cond (faulty n i (line_of (parts l))) k (first_fault n (i + held_line (line_of (parts l))) (k + 1) ls)

abbrev fault_among : ℕ → List (List ℕ) → ℕ
fault_among n ls = cond (eqb n 0) (length ls) (first_fault n 0 1 ls)

unfoldable pub fault_line : List ℕ → ℕ
fault_line t = fault_among (held_lines (lines_of t)) (lines_of t)
