-- The text of an accepted job's program reads back as that program: "reading that text restores the program's bytes".
-- Assumes nothing.
use Rattle.std.specs.Prelude.{◌≡◌, refl, Bool, true, ◌&&◌, cond, List, [], ◌∷◌, ◌++◌, ℕ, ◌+◌, leb, length, get_or}
use Rattle.std.proofs.Common.{ap, ◌∙◌, append_assoc}
use Rattle.std.proofs.Math.Option.{none, some}
use Rattle.location.specs.SetLaws.{and_left, and_right, and_true}
use Rattle.rules.specs.Rules.Limits.{max_instructions}
use Rattle.rules.specs.Rules.Instructions.{Instr, kind}
use Rattle.rules.specs.Rules.Runs.{Job}
use Rattle.rules.specs.Rules.JobFile.{postfix, branch_label_holds, trailer, limits, accepted, parse}
use Rattle.rules.specs.Rules.Encoding.{Bytes}
use Rattle.rules.specs.Rules.Parts.{newline, lines_of, parts}
use Rattle.rules.specs.Rules.TextReading.{instruction_words, Line, holds, line_of, joined_line, instructions_of, all_hold, program_holds, kept_if}
use Rattle.rules.specs.Rules.TextReading.{read_text}
use Rattle.rules.specs.Rules.TextPrinting.{instr_text, program_text}
use Rattle.rules.proofs.Theorems.JobLaws.{passed, job-end}
use Rattle.rules.proofs.Theorems.Encodable.{InstrsFit, nil, more}
use Rattle.rules.proofs.Theorems.Encoded.{job-program}
use Rattle.rules.proofs.Theorems.TextParts.{line_first}
use Rattle.rules.proofs.Theorems.TextLines.{line_text, line_reads, line-unbroken}

-- the first line of a printed program
first-line : (x : Instr) (xs : List Instr) → program_text (x ∷ xs) ≡ line_text x ++ (newline ∷ program_text xs)
unfolding program_text instr_text
first-line x xs = let word = get_or instruction_words (kind x) [] in simp append_assoc

-- what a line adds, and the empty text after the last one
line-joined : (l : List ℕ) (ls : List (List ℕ)) → instructions_of (l ∷ ls) ≡ joined_line (line_of (parts l)) (instructions_of ls)
unfolding instructions_of
line-joined l ls = refl

no_line : instructions_of (lines_of (program_text [])) ≡ some []
unfolding program_text lines_of instructions_of parts line_of
no_line = refl

lines-read : {xs : List Instr} (n i : ℕ) → InstrsFit xs → all_hold n i xs ≡ true → instructions_of (lines_of (program_text xs)) ≡ some xs
unfolding all_hold
lines-read n i nil h = no_line
lines-read n i (more {x = x} {xs = xs} f fs) h =
    let here = postfix x && branch_label_holds n i x in
    let s = and_left (postfix x) (branch_label_holds n i x) (and_left here (all_hold n (i + 1) xs) h) in
    let rest = lines_of (program_text xs) in
    ap (λ (t : List ℕ). instructions_of (lines_of t)) (first-line x xs)
    ∙ ap instructions_of (line_first (program_text xs) (line-unbroken x f s))
    ∙ line-joined (line_text x) rest
    ∙ ap (λ (l : Line). joined_line l (instructions_of rest)) (line_reads x f s)
    ∙ ap (joined_line (holds x)) (lines-read n (i + 1) fs (and_right here (all_hold n (i + 1) xs) h))

-- a program that the encoding has room for, and that passes 4 to 6
pub program-restores : (xs : List Instr) → InstrsFit xs → program_holds xs ≡ true → read_text (program_text xs) ≡ some xs
unfolding read_text program_holds
program-restores xs f h =
    let n = length xs in
    let valid = and_right (leb n max_instructions) (all_hold n 0 xs) (and_right (leb 1 n) (leb n max_instructions && all_hold n 0 xs) h) in
    ap kept_if (lines-read n 0 f valid) ∙ ap (λ (b : Bool). cond b (some xs) none) h

module _ (f : List ℕ) (j : Job) (e : parse f ≡ accepted j) (all : Bytes f) where
  -- "a program that 4 to 6 would refuse", "no instruction or over 512": an accepted job's is neither
  job-holds : program_holds j.code.prog ≡ true
  unfolding program_holds limits
  job-holds =
      let t = trailer f in
      let passes = passed f j e in
      let least = and_left (leb 1 t.count) _ passes.limits in
      let most = and_left (leb t.count max_instructions) _ (and_right (leb 1 t.count) _ passes.limits) in
      rw (job-end passes) (and_true (leb 1 t.count) _ least (and_true (leb t.count max_instructions) _ most (job-program f j e all).holds))

  pub text-restores : read_text (program_text j.code.prog) ≡ some j.code.prog
  text-restores = program-restores j.code.prog (job-program f j e all).fits job-holds
