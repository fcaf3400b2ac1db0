-- The program of a text is one that 4 to 7 do not refuse: document 01's reader takes its bytes as that program.
-- Assumes nothing.
use Rattle.std.specs.Prelude.{◌≡◌, refl, Bool, true, false, ◌&&◌, cond, List, ℕ, leb, length}
use Rattle.std.proofs.Math.Option.{Option, none, some}
use Rattle.std.proofs.Common.{leb-true}
use Rattle.location.specs.SetLaws.{and_left, and_right}
use Rattle.rules.specs.Rules.Limits.{max_instructions}
use Rattle.rules.specs.Rules.Instructions.{Instr}
use Rattle.rules.specs.Rules.JobFile.{got, program}
use Rattle.rules.specs.Rules.Encoding.{program_bytes}
use Rattle.rules.specs.Rules.Parts.{lines_of}
use Rattle.rules.specs.Rules.TextReading.{instructions_of, all_hold, program_holds, kept_if, read_text}
use Rattle.rules.proofs.Theorems.Decoded.{program_decoded}
use Rattle.rules.proofs.Theorems.TextFits.{none-some, some_same, ProgramFits, lines_fit}

-- document 01's reader takes the bytes of a program as that program
abbrev Decodes : List Instr → Type 0
Decodes xs = program (length xs) (length xs) 0 (program_bytes xs) 0 ≡ got xs (length (program_bytes xs))

holding_decoded : (xs : List Instr) → ProgramFits (some xs) → program_holds xs ≡ true → Decodes xs
unfolding program_holds
holding_decoded xs f h =
    let n = length xs in
    let bounded = and_right (leb 1 n) (leb n max_instructions && all_hold n 0 xs) h in
    let valid = and_right (leb n max_instructions) (all_hold n 0 xs) bounded in
    program_decoded n xs (f n 0 (leb-true n max_instructions (and_left (leb n max_instructions) (all_hold n 0 xs) bounded)) valid) valid

pub text-accepted : (t : List ℕ) {xs : List Instr} → read_text t ≡ some xs
    → program (length xs) (length xs) 0 (program_bytes xs) 0 ≡ got xs (length (program_bytes xs))
unfolding read_text
text-accepted t {xs} e = go (instructions_of (lines_of t)) (lines_fit (lines_of t)) e
  where
    kept : (ys : List Instr) → ProgramFits (some ys) → (b : Bool) → program_holds ys ≡ b → cond b (some ys) none ≡ some xs → Decodes xs
    kept ys f true h e = rw (some_same e) at (holding_decoded ys f h)
    kept ys f false h e = none-some e

    go : (r : Option (List Instr)) → ProgramFits r → kept_if r ≡ some xs → Decodes xs
    go none f e = none-some e
    go (some ys) f e = kept ys f (program_holds ys) refl e
