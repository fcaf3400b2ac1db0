-- The line of the first fault on texts at the boundaries of the rules: each text with its line, 0 where there is no fault.
-- Assumes nothing.
use Rattle.std.specs.Prelude.{◌≡◌, refl, List, [], ◌∷◌, ◌++◌, ℕ}
use Rattle.rules.specs.Rules.Expressions.{after, held, sound}
use Rattle.rules.specs.Rules.JobFile.{unary, binary}
use Rattle.rules.specs.Rules.Answers.{text}
use Rattle.rules.specs.Rules.Pairs.{same_words}
use Rattle.rules.specs.Rules.Parts.{newline, in_name, lines_of, starts_name, byte_parts, parts}
use Rattle.rules.specs.Rules.TextReading.{instruction_words, called, sign_named, operator_named, place_among, digits_only, value_after, number_below}
use Rattle.rules.specs.Rules.TextReading.{constant_named, register_named, simple_named, expression, signed, operand, whole_operand}
use Rattle.rules.specs.Rules.TextReading.{with_register, jump, branch, conditional, fields, instr_named, line_of}
use Rattle.text_reader.specs.Faults.{held_lines, first_fault, fault_line}

-- every definition that the tables compute with: a proof that unfolds this unfolds them all
unfoldable computing : Type 0
unfolding after held sound unary binary text same_words in_name lines_of starts_name byte_parts parts instruction_words called sign_named
    operator_named place_among digits_only value_after number_below constant_named register_named simple_named expression signed operand
    whole_operand with_register jump branch conditional fields instr_named line_of held_lines first_fault fault_line
computing = Unit {0}

-- lines, each ended by a newline, and the last line
unfoldable lined : List (List ℕ) → List ℕ
lined [] = []
lined (l ∷ ls) = l ++ (newline ∷ lined ls)

unfoldable found : List (List ℕ) → List ℕ
found [] = []
found (t ∷ ts) = fault_line t ∷ found ts

-- no instruction: the last line
unfoldable empty : List (List ℕ)
empty = [] ∷ lined (text "" ∷ text "# skip" ∷ []) ∷ []

-- a remark, spaces and blank lines; a branch back, to itself and to the end
unfoldable faultless : List (List ℕ)
faultless =
    text "skip" ∷ lined (text "  set r1 ( r2 add 3 )  # sum" ∷ text "" ∷ text "jmp neg r1" ∷ [])
    ∷ lined (text "skip" ∷ text "beqz r15 0" ∷ []) ∷ text "beqz r0 0" ∷ lined (text "beqz r0 2" ∷ text "spbarr" ∷ [])
    ∷ text "set r0 18446744073709551615" ∷ []

-- a part too many; a word that is none; the next label; a label over the count; a register and a constant too large; a missing bracket
unfoldable faulty : List (List ℕ)
faulty =
    lined (text "skip" ∷ text "" ∷ text "skip r1" ∷ []) ∷ lined (text "skip" ∷ text "Skip" ∷ [])
    ∷ lined (text "skip" ∷ text "" ∷ text "beqz r0 2" ∷ text "skip" ∷ []) ∷ lined (text "beqz r0 3" ∷ text "skip" ∷ [])
    ∷ text "jmp r16" ∷ text "set r0 18446744073709551616" ∷ lined (text "skip" ∷ text "store r0 (r1 add 2" ∷ []) ∷ []

empty-hold : found empty ≡ 1 ∷ 3 ∷ []
unfolding computing lined found empty
empty-hold = refl

faultless-hold : found faultless ≡ 0 ∷ 0 ∷ 0 ∷ 0 ∷ 0 ∷ 0 ∷ []
unfolding computing lined found faultless
faultless-hold = refl

faulty-hold : found faulty ≡ 3 ∷ 2 ∷ 3 ∷ 1 ∷ 1 ∷ 1 ∷ 2 ∷ []
unfolding computing lined found faulty
faulty-hold = refl
