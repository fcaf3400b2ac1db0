-- What the readers of lines say of the rules' reading: how many lines are not blank, what a line leaves, and what all lines leave.
-- Assumes nothing.
use Rattle.std.specs.Prelude.{◌≡◌, Bool, true, false, cond, List, [], ◌∷◌, ◌++◌, ℕ, ◌+◌, ◌*◌, ◌≤◌, eqb, length, drop, Option, Some, None}
use Rattle.rules.specs.Rules.Encoding.{instr_bytes}
use Rattle.rules.specs.Rules.Parts.{Part, parts, lines_of}
use Rattle.rules.specs.Rules.TextReading.{Line, blank, holds, unreadable, whole_line, line_of}
use Rattle.byte_writer.specs.Writing.{Put}
use Rattle.text_reader.specs.declared.LineRead.{LineRead}
use Rattle.text_reader.specs.declared.Scanned.{Scanned}
use Rattle.text_reader.specs.declared.Counted.{Counted}
use Rattle.text_reader.specs.Faults.{held_line, held_lines, faulty, first_fault}
use Rattle.text_reader.specs.Fields.{fields_of}

-- the bytes of the largest instruction: its kind, a register and two expressions of 16 constants
abbrev pub largest : ℕ
largest = 292

abbrev pub no_parts : List Part → Bool
no_parts [] = true
no_parts (p ∷ ps) = false

-- the line of an instruction of a kind, whose fields stand from an offset on
abbrev pub instruction_line : List ℕ → ℕ → ℕ → Line
instruction_line t at k = whole_line (fields_of k (parts (drop at t)))

-- ---- the bytes of lines
abbrev pub line_bytes : Line → List ℕ
line_bytes blank = []
line_bytes (holds x) = instr_bytes x
line_bytes unreadable = []

unfoldable pub lines_bytes : List (List ℕ) → List ℕ
lines_bytes [] = []
lines_bytes (l ∷ ls) = line_bytes (line_of (parts l)) ++ lines_bytes ls

-- ---- a line without fault: it is written, and counted if it is not blank
pub record LineKept (L : Line) (n i : ℕ) (a : List ℕ) (to : ℕ) (b : List ℕ) (r : LineRead) : Type 0 where
  pub fault : faulty n i L ≡ false
  pub put : Put a to (line_bytes L) b r.to
  pub count : r.count ≡ i + held_line L
  pub size : r.to ≤ to + largest * held_line L

abbrev pub LineTold : Line → ℕ → ℕ → List ℕ → ℕ → List ℕ → Option LineRead → Type 0
LineTold L n i a to b (Some r) = LineKept L n i a to b r
LineTold L n i a to b None = faulty n i L ≡ true

-- ---- all lines
pub record CountTold (t : List ℕ) (r : Counted) : Type 0 where
  pub lines : r.lines ≡ length (lines_of t)
  pub held : r.held ≡ held_lines (lines_of t)

pub record ScanKept (t a b : List ℕ) (r : Scanned) : Type 0 where
  pub put : Put a 0 (lines_bytes (lines_of t)) b r.to
  pub count : r.count ≡ held_lines (lines_of t)

-- the line of a number, if there is one: 0 is none
abbrev pub line_if : ℕ → Option ℕ
line_if k = cond (eqb k 0) None (Some k)

pub record ScanTold (t : List ℕ) (n : ℕ) (a b : List ℕ) (r : Scanned) : Type 0 where
  pub fault : r.fault ≡ line_if (first_fault n 0 1 (lines_of t))
  pub kept : r.fault ≡ None → ScanKept t a b r
