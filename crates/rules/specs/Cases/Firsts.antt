-- Which observation brought a location into D, after document 02, F-6: rows of reports. Tables.antt proves them.
-- Assumes nothing.
use Rattle.std.specs.Prelude.{List, [], ◌∷◌, ◌++◌, ℕ, suc, zero, ◌*◌, set}
use Rattle.rules.specs.declared.Cause.TheVariants.{Branch, Jump, Load, Store}
use Rattle.rules.specs.Cases.Files.{zeros, file, Report, report, Row, brings}
use Rattle.rules.specs.Cases.Document01.{job, state, nested_program, public}
use Rattle.rules.specs.Cases.Readings.{secret_job, zero17}
use Rattle.rules.specs.Cases.Outside.{summands, filling, overfilling}

-- what the branch of document 01's run rests on
unfoldable pub by_the_branch : List Report
by_the_branch = report 0 0 Branch 1 ∷ report 1 0 Branch 1 ∷ []

-- what the 64 stores of `filling` rest on: number k on r(k modulo 8) and r(8 + k / 8)
unfoldable pub each_store : ℕ → ℕ → ℕ → List Report
each_store l k zero = []
each_store l k (suc n) = report l k Store k ∷ each_store (suc l) (suc k) n

unfoldable pub each_eighth : ℕ → ℕ → ℕ → List Report
each_eighth l k zero = []
each_eighth l k (suc n) = report l (8 * k) Store (8 * k) ∷ each_eighth (suc l) (suc k) n

unfoldable pub by_the_stores : List Report
by_the_stores = each_store 0 0 8 ++ each_eighth 8 0 8

unfoldable pub firsts : List Row
firsts =
    -- document 01's printed run: "first r0 0 branch 1", "first r1 0 branch 1" and "first m1 3 load 3"
    brings (job 1 10 100) 1024 (report 17 3 Load 3 ∷ by_the_branch)
    -- a step that is not made reports nothing: the second load does not fit into the trace, or is one step too many
    ∷ brings (job 1 10 100) 7 by_the_branch
    ∷ brings (job 1 10 3) 1024 by_the_branch
    -- "indexes begin at 0", "A branch's set stands at its start observation": a second branch has index 2, not 3
    ∷ brings (file nested_program 3 (state 0 0 1) public 2 100) 1024 (report 0 0 Branch 0 ∷ report 1 2 Branch 1 ∷ [])
    -- "the first observation whose set holds it": load r1 r0; load r2 r0
    ∷ brings (secret_job (2 ∷ 1 ∷ 1 ∷ 0 ∷ 2 ∷ 2 ∷ 1 ∷ 0 ∷ []) 2 zero17 10) 1024 (report 0 0 Load 0 ∷ [])
    -- what was observed on a wrong path stays: beqz r0 2; load r1 r2; load r3 r2. After the rollback r2 is observed again.
    ∷ brings (secret_job (5 ∷ 0 ∷ 2 ∷ 0 ∷ 2 ∷ 1 ∷ 1 ∷ 2 ∷ 2 ∷ 3 ∷ 1 ∷ 2 ∷ []) 3 zero17 10) 1024 (report 0 0 Branch 0 ∷ report 2 2 Load 1 ∷ [])
    -- "the rule concerned (branch, jump, load or store) and the label of that instruction": skip; jmp r2
    ∷ brings (secret_job (0 ∷ 4 ∷ 1 ∷ 2 ∷ []) 2 (set zero17 2 5) 10) 1024 (report 2 0 Jump 1 ∷ [])
    -- store r1 r2 in the image; store r1 r3 outside it
    ∷ brings (secret_job (3 ∷ 1 ∷ 1 ∷ 2 ∷ 3 ∷ 1 ∷ 1 ∷ 3 ∷ []) 2 (set zero17 3 9) 10) 1024 (report 2 0 Store 0 ∷ report 3 1 Store 1 ∷ [])
    -- load r1 r0; load r2 r1: the cell comes in with the second load's address, not with the first load's word
    ∷ brings (secret_job (2 ∷ 1 ∷ 1 ∷ 0 ∷ 2 ∷ 2 ∷ 1 ∷ 1 ∷ []) 2 zero17 10) 1024 (report 0 0 Load 0 ∷ report 16 1 Load 1 ∷ [])
    -- one observation brings in several; a location that is there already keeps its report: load r1 r3; load r2 (r3 add r4) add r5
    ∷ brings (secret_job (2 ∷ 1 ∷ 1 ∷ 3 ∷ 2 ∷ 2 ∷ 5 ∷ 3 ∷ 4 ∷ 19 ∷ 5 ∷ 19 ∷ []) 2 zero17 10) 1024
    (report 3 0 Load 0 ∷ report 4 1 Load 1 ∷ report 5 1 Load 1 ∷ [])
    -- a label above 255: jmp 300; 299 times skip; load r1 r0
    ∷ brings (secret_job (4 ∷ 1 ∷ 16 ∷ 44 ∷ 1 ∷ zeros 6 ++ zeros 299 ++ (2 ∷ 1 ∷ 1 ∷ 0 ∷ [])) 301 zero17 10) 1024 (report 0 1 Load 300 ∷ [])
    -- "a store that stopped the run counts as the next one": 65 observations were made
    ∷ brings (overfilling 100) 132 (report 16 65 Store 65 ∷ by_the_stores)
    -- on a wrong path too: the 64 stores; load r1 r8; beqz r0 67; skip; store r2 r1
    ∷ brings (secret_job (filling 0 64 ++ (2 ∷ 1 ∷ 1 ∷ 8 ∷ 5 ∷ 0 ∷ 67 ∷ 0 ∷ 0 ∷ 3 ∷ 2 ∷ 1 ∷ 1 ∷ [])) 68 summands 10) 136
    (report 16 67 Store 67 ∷ by_the_stores)
    -- with trace full that store reports nothing
    ∷ brings (overfilling 100) 131 by_the_stores
    -- a refused job reports nothing
    ∷ brings [] 0 []
    ∷ []
