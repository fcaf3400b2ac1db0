-- The cases that document 01 marks (P): the rows of one table. Tables.antt proves them.
-- Assumes nothing.
use Rattle.std.specs.Prelude.{List, [], ◌∷◌, ◌++◌, ℕ, Ok}
use Rattle.rules.specs.declared.Stop.TheVariants.{Finished, Spent, TraceFull}
use Rattle.rules.specs.declared.Verdict.TheVariants.{Undecided, Clean, Speculative, Plain}
use Rattle.rules.specs.declared.PairWord.TheVariants as pairs
use Rattle.rules.specs.Rules.Outcomes.{paired}
use Rattle.rules.specs.Rules.Encoding.{word_bytes}
use Rattle.rules.specs.Cases.Files.{zeros, file, lines, counted, ran, Row, run, pair, prints}

-- 0 assign r2, r0 ult r1; 1 beqz r2, 4; 2 load r3, r0; 3 load r4, r3 add 2
unfoldable pub printed_program : List ℕ
printed_program =
    1 ∷ 2 ∷ 3 ∷ 0 ∷ 1 ∷ 28
    ∷ 5 ∷ 2 ∷ 4 ∷ 0
    ∷ 2 ∷ 3 ∷ 1 ∷ 0
    ∷ 2 ∷ 4 ∷ 3 ∷ 3 ∷ 16 ∷ 2 ∷ 0 ∷ 0 ∷ 0 ∷ 0 ∷ 0 ∷ 0 ∷ 0 ∷ 19 ∷ []

-- "spbarr put in as 2, beqz to 5"
unfoldable pub barrier_program : List ℕ
barrier_program =
    1 ∷ 2 ∷ 3 ∷ 0 ∷ 1 ∷ 28
    ∷ 5 ∷ 2 ∷ 5 ∷ 0
    ∷ 7
    ∷ 2 ∷ 3 ∷ 1 ∷ 0
    ∷ 2 ∷ 4 ∷ 3 ∷ 3 ∷ 16 ∷ 2 ∷ 0 ∷ 0 ∷ 0 ∷ 0 ∷ 0 ∷ 0 ∷ 0 ∷ 19 ∷ []

-- "0 beqz r0, 3; 1 beqz r1, 3; 2 skip"
unfoldable pub nested_program : List ℕ
nested_program =
    5 ∷ 0 ∷ 3 ∷ 0
    ∷ 5 ∷ 1 ∷ 3 ∷ 0
    ∷ 0 ∷ []

-- r0, r1 and cell 1, with four cells
unfoldable pub state : ℕ → ℕ → ℕ → List ℕ
state r0 r1 c1 = r0 ∷ r1 ∷ zeros 15 ++ (c1 ∷ zeros 2)

-- r0 and r1
unfoldable pub public : List ℕ
public = 3 ∷ 0 ∷ 0 ∷ 0 ∷ []

-- the printed job with another r0, window or budget
unfoldable pub job : ℕ → ℕ → ℕ → List ℕ
job r0 w b = file printed_program 4 (state r0 1 1) public w b

-- start 0, pc 2, load 1, load 3, rollback 0, pc end
unfoldable pub whole_trace : List ℕ
whole_trace = 0 ∷ 0 ∷ 2 ∷ 2 ∷ 3 ∷ 1 ∷ 3 ∷ 3 ∷ 1 ∷ 0 ∷ 2 ∷ 4 ∷ []

unfoldable pub r01 : List ℕ
r01 = 0 ∷ 1 ∷ []

unfoldable pub r01m1 : List ℕ
r01m1 = 0 ∷ 1 ∷ 17 ∷ []

-- the printed run, line by line; the last three as document 02's F-6 has them
unfoldable pub listing01 : List ℕ
listing01 =
    lines (
    "start 0" ∷ "pc 2" ∷ "load 1" ∷ "load 3" ∷ "rollback 0" ∷ "pc end"
    ∷ "stop finished" ∷ "steps 5" ∷ "rollbacks 1" ∷ "depends r0 r1 m1" ∷ "plain r0 r1" ∷ "verdict speculative"
    ∷ "first r0 0 branch 1" ∷ "first r1 0 branch 1" ∷ "first m1 3 load 3" ∷ []
    )

unfoldable pub document01 : List Row
document01 =
    -- the printed run: its listing, and as a call
    prints (job 1 10 100) listing01
    ∷ run (job 1 10 100) 1024 whole_trace (ran Finished 6 5 1 r01m1 r01 Speculative)
    -- w 0: four observations, 3 steps, clean
    ∷ run (job 1 0 100) 1024 (0 ∷ 0 ∷ 2 ∷ 2 ∷ 1 ∷ 0 ∷ 2 ∷ 4 ∷ []) (ran Finished 4 3 1 r01 r01 Clean)
    -- w 1: load 1 only, 4 steps, clean
    ∷ run (job 1 1 100) 1024 (0 ∷ 0 ∷ 2 ∷ 2 ∷ 3 ∷ 1 ∷ 1 ∷ 0 ∷ 2 ∷ 4 ∷ []) (ran Finished 5 4 1 r01 r01 Clean)
    -- w 2: as printed
    ∷ run (job 1 2 100) 1024 whole_trace (ran Finished 6 5 1 r01m1 r01 Speculative)
    -- b 0: spent, no observation
    ∷ run (job 1 10 0) 1024 [] (ran Spent 0 0 0 [] [] Undecided)
    -- b 4: spent after load 3
    ∷ run (job 1 10 4) 1024 (0 ∷ 0 ∷ 2 ∷ 2 ∷ 3 ∷ 1 ∷ 3 ∷ 3 ∷ []) (ran Spent 4 4 0 r01m1 r01 Undecided)
    -- b 5: finished
    ∷ run (job 1 10 5) 1024 whole_trace (ran Finished 6 5 1 r01m1 r01 Speculative)
    -- five observations lent: trace full, four written
    ∷ run (job 1 10 100) 10 (0 ∷ 0 ∷ 2 ∷ 2 ∷ 3 ∷ 1 ∷ 3 ∷ 3 ∷ []) (ran TraceFull 4 4 0 r01m1 r01 Undecided)
    -- r0 = 0: start 0, pc end, rollback 0, pc 2, load 0, load 2; 5 steps, plain
    ∷ run (job 0 10 100) 1024 (0 ∷ 0 ∷ 2 ∷ 4 ∷ 1 ∷ 0 ∷ 2 ∷ 2 ∷ 3 ∷ 0 ∷ 3 ∷ 2 ∷ []) (ran Finished 6 5 1 (0 ∷ 1 ∷ 16 ∷ []) (0 ∷ 1 ∷ 16 ∷ []) Plain)
    -- spbarr: start 0, pc 2, rollback 0, pc end; 4 steps, clean
    ∷ run (file barrier_program 5 (state 1 1 1) public 10 100) 1024 (0 ∷ 0 ∷ 2 ∷ 2 ∷ 1 ∷ 0 ∷ 2 ∷ 5 ∷ []) (ran Finished 4 4 1 r01 r01 Clean)
    -- second state with cell 1 = 0: leak shown
    ∷ pair (job 1 10 100) (word_bytes (state 1 1 0)) 1024 whole_trace (0 ∷ 0 ∷ 2 ∷ 2 ∷ 3 ∷ 1 ∷ 3 ∷ 2 ∷ 1 ∷ 0 ∷ 2 ∷ 4 ∷ [])
    (Ok (paired pairs.LeakShown (counted Finished 6 5 1) (counted Finished 6 5 1)))
    -- nested, w 2: start 0, pc 1, start 1, pc 2, rollback 1, pc end, rollback 0, pc end; 5 steps
    ∷ run (file nested_program 3 (state 0 0 1) public 2 100) 1024
    (0 ∷ 0 ∷ 2 ∷ 1 ∷ 0 ∷ 1 ∷ 2 ∷ 2 ∷ 1 ∷ 1 ∷ 2 ∷ 3 ∷ 1 ∷ 0 ∷ 2 ∷ 3 ∷ []) (ran Finished 8 5 2 r01 (0 ∷ []) Clean)
    ∷ []
