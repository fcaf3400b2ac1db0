-- The job files of the cases, as the program lays them out byte by byte. proofs/Laws shows that they are files of the rules' tables.
-- Assumes nothing.
use Rattle.std.specs.Prelude.{◌≡◌, refl, List, [], ◌∷◌, ◌++◌, ℕ, ◌+◌, ◌*◌, ◌/◌, ◌%◌, length, drop, set}
use Rattle.rules.specs.Cases.Files.{zeros, file}
use Rattle.rules.specs.Cases.Document01.{printed_program, nested_program, state, public}

-- what stands behind the program of s bytes: r0, r1 and cell 1 = 1; then at q that r0 and r1 are public; then the trailer
unfoldable pub stores : ℕ → List ℕ → ℕ → ℕ → ℕ → ℕ → ℕ → ℕ → List ℕ
stores s l n m r0 r1 w b =
    let q = s + 128 + 8 * m in
    let l₁ = set (set (set l s r0) (s + 8) r1) (s + 136) 1 in
    let l₂ = set (set (set (set l₁ q 3) (q + 32) (s % 256)) (q + 34) (q % 256)) (q + 35) (q / 256 % 256) in
    set (set (set (set l₂ (q + 36) n) (q + 38) m) (q + 40) w) (q + 44) b

-- a job at the front of an area: a program of n instructions, m cells, r0, r1, a window and a budget
unfoldable pub laid_out : List ℕ → ℕ → ℕ → ℕ → ℕ → ℕ → ℕ → List ℕ → List ℕ
laid_out program n m r0 r1 w b area = stores (length program) (program ++ drop (length program) area) n m r0 r1 w b

-- "0 beqz r0, 3; 1 beqz r1, 3; 2 skip", with another label in the first branch
abbrev pub nested_with : ℕ → List ℕ
nested_with label = 5 ∷ 0 ∷ label ∷ 0 ∷ 5 ∷ 1 ∷ 3 ∷ 0 ∷ 0 ∷ []

-- with label 3 it is the program of the rules' tables
pub nested-program : nested_with 3 ≡ nested_program
unfolding nested_program
nested-program = refl

-- the printed job with so many cells more
unfoldable pub many_cells : ℕ → List ℕ
many_cells more = file printed_program 4 (state 1 1 1 ++ zeros more) public 10 100
