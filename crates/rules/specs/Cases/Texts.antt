-- Routines as text: texts with the program that reading gives or the number that turns them away, and jobs with the text that printing
-- gives. Each row fails under some misreading of document 02's F-1 (docs/DECISIONS.md has the readings). TextTables.antt proves them.
-- Assumes nothing.
use Rattle.std.specs.Prelude.{List, [], ◌∷◌, ◌++◌, ℕ, zero, suc, ◌+◌, length, replicate, Ok, Err}
use Prim.Native.String.{String}
use Rattle.rules.specs.declared.Refusal.TheVariants as refusals
use Rattle.rules.specs.Rules.Outcomes.{PrintAnswer, ReadAnswer, read_as}
use Rattle.rules.specs.Rules.Answers.{text}
use Rattle.rules.specs.Rules.Encoding.{bytes_of}
use Rattle.rules.specs.Rules.Calls.{Called}
use Rattle.rules.specs.Rules.TextCalls.{read_call, print_call}
use Rattle.rules.specs.Cases.Files.{zeros, lines}
use Rattle.rules.specs.Cases.Document01.{printed_program, job}
use Rattle.rules.specs.Cases.Readings.{filled}
use Rattle.rules.specs.Cases.Refusals.{program, skips, offsets_at, list_bit}

-- ---- rows
-- A text, and the bytes and the count of its program. A text that is turned away with 11. A text and its length in bytes and
-- instructions alone. A program of n instructions that prints as a text and is read back from it. A call of reading or printing, with
-- the area before it, its answer, and the area after it.
pub data Row : Type 0 where
  reads : List ℕ → List ℕ → ℕ → Row
  refuses : List ℕ → Row
  measures : List ℕ → ℕ → ℕ → Row
  round_trips : List ℕ → ℕ → List ℕ → Row
  read_leaves : List ℕ → List ℕ → ReadAnswer → List ℕ → Row
  print_leaves : List ℕ → List ℕ → PrintAnswer → List ℕ → Row

-- what is compared: the answers, with the whole area after the call
pub data Seen : Type 0 where
  read : Called ReadAnswer (List ℕ) → Seen
  size : ReadAnswer → Seen
  printed : Called PrintAnswer (List ℕ) → Seen
  both : Called PrintAnswer (List ℕ) → Called ReadAnswer (List ℕ) → Seen

abbrev pub left : {A : Type 0} → A → List ℕ → Called A (List ℕ)
left answer area = record { answer = answer; areas = area }

unfoldable pub given : Row → Seen
given (reads t bytes n) = read (read_call t (filled (length bytes + 1)))
given (refuses t) = read (read_call t (filled 9))
given (measures t k n) = size (read_call t (filled k)).answer
given (round_trips bytes n t) = both (print_call (program bytes n 0) (filled (length t + 1))) (read_call t (filled (length bytes + 1)))
given (read_leaves t before answer after) = read (read_call t before)
given (print_leaves j before answer after) = printed (print_call j before)

unfoldable pub wanted : Row → Seen
wanted (reads t bytes n) = read (left (Ok (read_as (length bytes) n)) (bytes ++ filled 1))
wanted (refuses t) = read (left (Err refusals.Text) (filled 9))
wanted (measures t k n) = size (Ok (read_as k n))
wanted (round_trips bytes n t) = both (left (Ok (length t)) (t ++ filled 1)) (left (Ok (read_as (length bytes) n)) (bytes ++ filled 1))
wanted (read_leaves t before answer after) = read (left answer after)
wanted (print_leaves j before answer after) = printed (left answer after)

unfoldable pub all_given : List Row → List Seen
all_given [] = []
all_given (r ∷ rs) = given r ∷ all_given rs

unfoldable pub all_wanted : List Row → List Seen
all_wanted [] = []
all_wanted (r ∷ rs) = wanted r ∷ all_wanted rs

-- ---- texts and programs
-- a text of one line
unfoldable pub only : String → List ℕ
only l = lines (l ∷ [])

-- a line with the bytes of its instruction; a line that is outside the rules; a line that prints and reads as an instruction
unfoldable pub inside : String → List ℕ → Row
inside l bytes = reads (only l) bytes 1

unfoldable pub outside : String → Row
outside l = refuses (only l)

unfoldable pub round_trips_line : List ℕ → String → Row
round_trips_line bytes l = round_trips bytes 1 (only l)

-- some bytes, again and again
unfoldable pub repeated : ℕ → List ℕ → List ℕ
repeated zero bytes = []
repeated (suc k) bytes = bytes ++ repeated k bytes

-- set r0 with an expression of k tokens
unfoldable pub set_bytes : ℕ → List ℕ → List ℕ
set_bytes k tokens = 1 ∷ 0 ∷ k ∷ tokens

unfoldable pub constant : ℕ → List ℕ
constant c = 16 ∷ bytes_of 8 c

-- r1 op r2, by the operator's byte
unfoldable pub operation : ℕ → List ℕ
operation o = set_bytes 3 (1 ∷ 2 ∷ o ∷ [])

-- r1 add 2
unfoldable pub sum : List ℕ
sum = 1 ∷ constant 2 ++ (19 ∷ [])

-- ---- document 02's own example
unfoldable pub text02 : List ℕ
text02 = lines ("set r2 (r0 ult r1)" ∷ "beqz r2 4" ∷ "load r3 r0" ∷ "load r4 (r3 add 2)" ∷ [])

unfoldable pub example02 : List Row
example02 =
    -- the four lines, and back; the job of document 01 as a call
    round_trips printed_program 4 text02
    ∷ print_leaves (job 1 10 100) (filled 60) (Ok 59) (text02 ++ filled 1)
    ∷ []

-- ---- words: the eight instructions, the twelve operator names
unfoldable pub words : List Row
words =
    round_trips
    (0 ∷ 1 ∷ 0 ∷ 1 ∷ 1 ∷ 2 ∷ 2 ∷ 1 ∷ constant 3 ++ (3 ∷ 4 ∷ 3 ∷ 5 ∷ constant 6 ++ (19 ∷ 4 ∷ 1 ∷ 7 ∷ 5 ∷ 8 ∷ 8 ∷ 0 ∷ 6 ∷ 9 ∷ 1 ∷ 10 ∷ 1 ∷ 11 ∷ 7 ∷ [])))
    8 (lines ("skip" ∷ "set r0 r1" ∷ "load r2 3" ∷ "store r4 (r5 add 6)" ∷ "jmp r7" ∷ "beqz r8 8" ∷ "cset r9 r10 r11" ∷ "spbarr" ∷ []))
    ∷ round_trips_line (set_bytes 2 (1 ∷ 17 ∷ [])) "set r0 neg r1"
    ∷ round_trips_line (set_bytes 2 (1 ∷ 18 ∷ [])) "set r0 not r1"
    ∷ round_trips_line (operation 19) "set r0 (r1 add r2)"
    ∷ round_trips_line (operation 20) "set r0 (r1 sub r2)"
    ∷ round_trips_line (operation 21) "set r0 (r1 mul r2)"
    ∷ round_trips_line (operation 22) "set r0 (r1 and r2)"
    ∷ round_trips_line (operation 23) "set r0 (r1 or r2)"
    ∷ round_trips_line (operation 24) "set r0 (r1 xor r2)"
    ∷ round_trips_line (operation 25) "set r0 (r1 shl r2)"
    ∷ round_trips_line (operation 26) "set r0 (r1 shr r2)"
    ∷ round_trips_line (operation 27) "set r0 (r1 eq r2)"
    ∷ round_trips_line (operation 28) "set r0 (r1 ult r2)"
    -- spelled exactly: document 01's names, a part of a word, more than a word, upper-case letters
    ∷ outside "assign r0 r1" ∷ outside "barrier" ∷ outside "ski" ∷ outside "skips" ∷ outside "Skip" ∷ outside "SKIP"
    ∷ outside "set R0 r1" ∷ outside "set r0 Not r1" ∷ outside "set r0 (r1 Add r2)" ∷ outside "set r0 (r1 plus r2)" ∷ outside "set r0 inv r1"
    -- a sign is no operator and an operator no sign; a word is no operand
    ∷ outside "set r0 (r1 neg r2)" ∷ outside "set r0 add r1" ∷ outside "set r0 add" ∷ outside "set r0 skip" ∷ outside "set r0 neg"
    ∷ []

-- ---- fields in document 01's order, and no more than one instruction a line
unfoldable pub field_rows : List Row
field_rows =
    outside "set" ∷ outside "set r0" ∷ outside "set r1 r2 r3" ∷ outside "set 1 r0" ∷ outside "set (r0 add 1) r1"
    ∷ outside "load 1 r0" ∷ outside "store (r0 add 1) r1" ∷ inside "store r1 (r0 add r1)" (3 ∷ 1 ∷ 3 ∷ 0 ∷ 1 ∷ 19 ∷ [])
    ∷ outside "jmp" ∷ outside "jmp r0 r1" ∷ inside "jmp 0" (4 ∷ 1 ∷ constant 0)
    ∷ outside "beqz r0" ∷ outside "beqz 0 r0" ∷ outside "beqz r0 r0" ∷ outside "beqz r0 (0 add 0)" ∷ outside "beqz r0 neg 0"
    ∷ inside "beqz r0 0" (5 ∷ 0 ∷ 0 ∷ 0 ∷ [])
    ∷ outside "cset r0 r1" ∷ outside "cset r0 r1 r2 r3" ∷ round_trips_line (6 ∷ 0 ∷ 1 ∷ 1 ∷ 2 ∷ 2 ∷ 17 ∷ []) "cset r0 r1 neg r2"
    ∷ outside "skip r0" ∷ outside "spbarr 0"
    ∷ outside "skip skip" ∷ outside "skip()" ∷ outside "(skip)" ∷ outside "r0" ∷ outside "0" ∷ outside "set r0 r1 set r0 r1"
    ∷ reads (lines ("skip" ∷ "skip" ∷ [])) (0 ∷ 0 ∷ []) 2
    -- an instruction ends with its line
    ∷ refuses (lines ("set r0" ∷ "r1" ∷ []))
    ∷ refuses (lines ("skip" ∷ "skip skip" ∷ []))
    ∷ refuses (lines ("skip skip" ∷ "skip" ∷ []))
    ∷ []

-- ---- each reading of F-1, with its opposite
unfoldable pub text_readings : List Row
text_readings =
    -- only byte 32 is a blank, and it may stand before, after and between the parts, also inside brackets
    inside "  set  r0   ( r1  add r2 )  " (operation 19)
    ∷ refuses (text "set" ++ (9 ∷ text "r0 r1"))
    ∷ refuses (text "set r0 r1" ++ (13 ∷ 10 ∷ []))
    ∷ refuses (9 ∷ 10 ∷ only "skip")
    ∷ refuses (text "set r0" ++ (0 ∷ text "r1"))
    ∷ refuses (text "set r0" ++ (160 ∷ text "r1"))
    -- spaces stand between two words or numbers, and not inside one
    ∷ outside "setr0 r1" ∷ outside "set r0r1" ∷ outside "set r0 (r1add r2)" ∷ outside "set r0 (r1 addr2)" ∷ outside "sk ip" ∷ outside "set r 0 r1"
    ∷ inside "set r0 12" (set_bytes 1 (constant 12)) ∷ outside "set r0 1 2"
    -- a remark holds any byte but a newline
    ∷ reads (text "skip # " ++ (9 ∷ 13 ∷ 0 ∷ 255 ∷ 65 ∷ 40 ∷ 35 ∷ 10 ∷ only "spbarr")) (0 ∷ 7 ∷ []) 2
    ∷ refuses (text "skip " ++ (9 ∷ 13 ∷ 0 ∷ 255 ∷ 65 ∷ 40 ∷ 35 ∷ 10 ∷ only "spbarr"))
    ∷ inside "set r0 r1#r2" (set_bytes 1 (1 ∷ [])) ∷ outside "set r0 #r1" ∷ outside "set r0 (r1 add #2)" ∷ outside "#skip" ∷ outside "skip ; end"
    -- blank and remark lines are no labels: n is 2, and the next label is 1
    ∷ reads (lines ("# first" ∷ "" ∷ "beqz r0 2" ∷ "  " ∷ "skip" ∷ [])) (5 ∷ 0 ∷ 2 ∷ 0 ∷ 0 ∷ []) 2
    ∷ refuses (lines ("# first" ∷ "" ∷ "beqz r0 5" ∷ "  " ∷ "skip" ∷ []))
    ∷ refuses (lines ("# first" ∷ "" ∷ "beqz r0 1" ∷ "  " ∷ "skip" ∷ []))
    -- a bracket holds two operands round an operator name, which stand in brackets only
    ∷ inside "set r0 r0" (set_bytes 1 (0 ∷ [])) ∷ outside "set r0 (r0)" ∷ outside "set r0 ((r1 add r2))" ∷ outside "set r0 (neg r1)"
    ∷ inside "set r0 (1 add 2)" (set_bytes 3 (constant 1 ++ constant 2 ++ (19 ∷ []))) ∷ outside "set r0 1 add 2"
    ∷ outside "set r0 (r1 add r2 add r3)" ∷ outside "set r0 (r1 r2 add)" ∷ outside "set r0 (r1 r2)" ∷ outside "set r0 ()" ∷ outside "set r0 (add)"
    ∷ outside "set r0 (r1 add r2" ∷ outside "set r0 (r1 add r2))" ∷ outside "set r0 r1)" ∷ outside "set r0 )r1" ∷ outside "set (r0 r1)"
    -- a sign is a word, and is before an operand: of a bracket's first operand, not of the bracket
    ∷ inside "set r0 neg 5" (set_bytes 2 (constant 5 ++ (17 ∷ []))) ∷ outside "set r0 neg5" ∷ outside "set r0 -1" ∷ outside "set r0 +1"
    ∷ inside "set r0 (neg r1 add r2)" (set_bytes 4 (1 ∷ 17 ∷ 2 ∷ 19 ∷ [])) ∷ inside "set r0 neg (r1 add r2)" (set_bytes 4 (1 ∷ 2 ∷ 19 ∷ 17 ∷ []))
    ∷ inside "set r0 neg not r1" (set_bytes 3 (1 ∷ 18 ∷ 17 ∷ [])) ∷ outside "set r0 r1 neg"
    -- no needless leading zero, of a register, a constant or a label
    ∷ inside "set r0 0" (set_bytes 1 (constant 0)) ∷ inside "set r0 10" (set_bytes 1 (constant 10)) ∷ outside "set r0 01" ∷ outside "set r0 00"
    ∷ inside "set r10 r0" (1 ∷ 10 ∷ 1 ∷ 0 ∷ []) ∷ outside "set r00 r0" ∷ outside "set r0 r00" ∷ outside "set r0 r01" ∷ outside "beqz r0 00"
    ∷ outside "set r0 r" ∷ outside "set r0 0x1" ∷ outside "set r0 1a"
    -- no space is needed beside a bracket
    ∷ inside "cset r0(r1 eq 2)(r3 add 4)" (6 ∷ 0 ∷ 3 ∷ 1 ∷ constant 2 ++ (27 ∷ 3 ∷ 3 ∷ constant 4 ++ (19 ∷ [])))
    ∷ inside "set r0 not(r1 add 2)" (set_bytes 4 (sum ++ (18 ∷ [])))
    ∷ inside "set r0((r1 add r2)sub(r3 add r4))" (set_bytes 7 (1 ∷ 2 ∷ 19 ∷ 3 ∷ 4 ∷ 19 ∷ 20 ∷ []))
    ∷ inside "cset r0 (r1 add r2)r3" (6 ∷ 0 ∷ 3 ∷ 1 ∷ 2 ∷ 19 ∷ 1 ∷ 3 ∷ [])
    ∷ inside "cset r0 r3(r1 add r2)" (6 ∷ 0 ∷ 1 ∷ 3 ∷ 3 ∷ 1 ∷ 2 ∷ 19 ∷ [])
    -- printing puts one space there, and one after a sign, also before a bracket
    ∷ round_trips_line (6 ∷ 0 ∷ 3 ∷ 1 ∷ constant 2 ++ (27 ∷ 3 ∷ 3 ∷ constant 4 ++ (19 ∷ []))) "cset r0 (r1 eq 2) (r3 add 4)"
    ∷ round_trips_line (set_bytes 4 (sum ++ (18 ∷ []))) "set r0 not (r1 add 2)"
    ∷ round_trips_line (set_bytes 7 (1 ∷ 2 ∷ 19 ∷ 3 ∷ 4 ∷ 19 ∷ 20 ∷ [])) "set r0 ((r1 add r2) sub (r3 add r4))"
    ∷ round_trips_line (set_bytes 7 (1 ∷ 17 ∷ 2 ∷ 18 ∷ 18 ∷ 19 ∷ 17 ∷ [])) "set r0 neg (neg r1 add not not r2)"
    ∷ []

-- ---- bounds
-- so many signs before r0
unfoldable pub nots : ℕ → List ℕ
nots k = text "set r0 " ++ repeated k (text "not ") ++ text "r0"

-- so many brackets, each the left or the right operand of the one round it
unfoldable pub left_brackets : ℕ → List ℕ
left_brackets k = text "set r0 " ++ repeated k (text "(") ++ text "r0" ++ repeated k (text " add r0)")

unfoldable pub right_brackets : ℕ → List ℕ
right_brackets k = text "set r0 " ++ repeated k (text "(r0 add ") ++ text "r0" ++ repeated k (text ")")

-- a branch to a label before so many skips
unfoldable pub branch_before : String → ℕ → List ℕ
branch_before l k = only l ++ repeated k (only "skip")

-- two expressions of eight constants each
unfoldable pub long_line : List ℕ
long_line =
    let e = text " (1 add (2 add (3 add (4 add (5 add (6 add (7 add 8)))))))" in
    text "cset r0" ++ e ++ e ++ (10 ∷ [])

unfoldable pub text_bounds : List Row
text_bounds =
    -- "no instruction": an empty text, newlines only, remarks only; the last line may end without a newline, also in a remark
    refuses [] ∷ refuses (10 ∷ []) ∷ refuses (10 ∷ 10 ∷ 10 ∷ []) ∷ refuses (text " # skip")
    ∷ reads (text "skip") (0 ∷ []) 1
    ∷ reads (text "skip # end") (0 ∷ []) 1
    ∷ reads (text "skip#") (0 ∷ []) 1
    ∷ reads (10 ∷ 10 ∷ text "skip" ++ (10 ∷ 10 ∷ [])) (0 ∷ []) 1
    -- "or over 512", counted without blank and remark lines; the branch goes to n
    ∷ round_trips (5 ∷ 0 ∷ 0 ∷ 2 ∷ zeros 511) 512 (branch_before "beqz r0 512" 511)
    ∷ reads (branch_before "beqz r0 512 # to the end" 511 ++ (10 ∷ text "# skip")) (5 ∷ 0 ∷ 0 ∷ 2 ∷ zeros 511) 512
    ∷ refuses (branch_before "beqz r0 512" 512)
    -- a program of more than 16,384 bytes is read
    ∷ measures (repeated 102 long_line) 16524 102
    -- 16 tokens and 17, of signs and of brackets on either side
    ∷ round_trips (set_bytes 16 (0 ∷ replicate 15 18)) 1 (nots 15 ++ (10 ∷ []))
    ∷ refuses (nots 16)
    ∷ round_trips (set_bytes 15 (0 ∷ repeated 7 (0 ∷ 19 ∷ []))) 1 (left_brackets 7 ++ (10 ∷ []))
    ∷ refuses (left_brackets 8)
    -- "never hold more than 8 values": 8 take 15 tokens, 9 at least 17, so that no text of at most 16 tokens holds 9
    ∷ round_trips (set_bytes 15 (zeros 8 ++ replicate 7 19)) 1 (right_brackets 7 ++ (10 ∷ []))
    ∷ refuses (right_brackets 8)
    -- 16 tokens that hold 8 values; 16 in each of two expressions, and 17 in the second
    ∷ inside "set r0 neg (r0 add (r0 add (r0 add (r0 add (r0 add (r0 add (r0 add r0)))))))" (set_bytes 16 (zeros 8 ++ replicate 7 19 ++ (17 ∷ [])))
    ∷ reads (text "cset r1 " ++ repeated 15 (text "neg ") ++ text "r2 " ++ repeated 15 (text "not ") ++ text "r3")
    (6 ∷ 1 ∷ 16 ∷ 2 ∷ replicate 15 17 ++ (16 ∷ 3 ∷ replicate 15 18)) 1
    ∷ refuses (text "cset r1 r2 " ++ repeated 16 (text "not ") ++ text "r3")
    ∷ refuses (text "cset r1 " ++ repeated 16 (text "not ") ++ text "r2 r3")
    -- deep nesting
    ∷ refuses (nots 200) ∷ refuses (left_brackets 100) ∷ refuses (right_brackets 100) ∷ refuses (text "set r0 " ++ repeated 500 (text "("))
    -- "a constant of 2^64 or more"
    ∷ round_trips_line (set_bytes 1 (constant 18446744073709551615)) "set r0 18446744073709551615"
    ∷ outside "set r0 18446744073709551616" ∷ outside "set r0 100000000000000000000" ∷ outside "set r0 (1 add 18446744073709551616)"
    -- registers
    ∷ round_trips_line (1 ∷ 15 ∷ 1 ∷ 15 ∷ []) "set r15 r15"
    ∷ outside "set r16 r0" ∷ outside "set r0 r16" ∷ outside "set r0 r20" ∷ outside "set r0 r100" ∷ outside "beqz r16 0"
    -- labels, of the first of two instructions: n, n + 1, the next, its own
    ∷ reads (branch_before "beqz r0 2" 1) (5 ∷ 0 ∷ 2 ∷ 0 ∷ 0 ∷ []) 2
    ∷ refuses (branch_before "beqz r0 3" 1)
    ∷ refuses (branch_before "beqz r0 1" 1)
    ∷ reads (branch_before "beqz r0 0" 1) (5 ∷ 0 ∷ 0 ∷ 0 ∷ 0 ∷ []) 2
    -- of the second: n is the next, its own, one before; labels of more than two bytes
    ∷ refuses (lines ("skip" ∷ "beqz r0 2" ∷ []))
    ∷ reads (lines ("skip" ∷ "beqz r0 1" ∷ [])) (0 ∷ 5 ∷ 0 ∷ 1 ∷ 0 ∷ []) 2
    ∷ reads (lines ("skip" ∷ "beqz r0 0" ∷ [])) (0 ∷ 5 ∷ 0 ∷ 0 ∷ 0 ∷ []) 2
    ∷ outside "beqz r0 65536" ∷ outside "beqz r0 18446744073709551616"
    ∷ []

-- ---- the area, and the order of the tests
unfoldable pub text_areas : List Row
text_areas =
    -- reading into an area that is one byte short, just long enough, longer; 11 before 12
    read_leaves text02 (filled 27) (Err refusals.Output) (filled 27)
    ∷ read_leaves text02 (filled 28) (Ok (read_as 28 4)) printed_program
    ∷ read_leaves text02 (filled 30) (Ok (read_as 28 4)) (printed_program ++ filled 2)
    ∷ read_leaves (only "skip") [] (Err refusals.Output) []
    ∷ read_leaves (only "skip skip") [] (Err refusals.Text) []
    ∷ read_leaves [] [] (Err refusals.Text) []
    ∷ read_leaves (lines ("skip" ∷ "skip" ∷ "beqz r0 4" ∷ [])) (filled 1) (Err refusals.Text) (filled 1)
    -- printing likewise; 1 to 8 before 12
    ∷ print_leaves (job 1 10 100) (filled 58) (Err refusals.Output) (filled 58)
    ∷ print_leaves (job 1 10 100) (filled 59) (Ok 59) text02
    ∷ print_leaves (zeros 15) (filled 2) (Err refusals.Length) (filled 2)
    ∷ print_leaves (skips 513 0 10 0 100) [] (Err refusals.Trailer) []
    ∷ print_leaves (offsets_at 2 129) [] (Err refusals.Offsets) []
    ∷ print_leaves (program (8 ∷ []) 1 0) (filled 9) (Err refusals.Encoding) (filled 9)
    ∷ print_leaves (program (4 ∷ 2 ∷ 0 ∷ 0 ∷ []) 1 0) [] (Err refusals.Postfix) []
    ∷ print_leaves (program (5 ∷ 0 ∷ 1 ∷ 0 ∷ []) 1 0) [] (Err refusals.BranchLabel) []
    ∷ print_leaves (program (0 ∷ 0 ∷ []) 1 0) (filled 9) (Err refusals.Surplus) (filled 9)
    ∷ print_leaves (list_bit 2 16) [] (Err refusals.PublicList) []
    ∷ print_leaves (list_bit 2 8) [] (Err refusals.Output) []
    ∷ print_leaves (list_bit 2 8) (filled 5) (Ok 5) (only "skip")
    ∷ []
