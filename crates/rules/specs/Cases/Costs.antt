-- Window costs of the buyer's processor, after document 02, F-7: rows of runs by a table, and what is turned away. Tables.antt proves them.
-- Assumes nothing.
use Rattle.std.specs.Prelude.{List, [], ◌∷◌, ◌++◌, ℕ, ◌+◌, ◌/◌, length, set, replicate, Ok, Err}
use Rattle.rules.specs.declared.Stop.TheVariants.{Finished}
use Rattle.rules.specs.declared.Verdict.TheVariants.{Clean, Speculative}
use Rattle.rules.specs.declared.Refusal.TheVariants as refusals
use Rattle.rules.specs.declared.PairWord.TheVariants as pairs
use Rattle.rules.specs.declared.TestLoad.TheVariants as loads
use Rattle.rules.specs.Rules.Outcomes.{paired}
use Rattle.rules.specs.Rules.Instructions.{window_costs}
use Rattle.rules.specs.Rules.Calls.{lent, run_refused}
use Rattle.rules.specs.Rules.Pairs.{pair_lent}
use Rattle.rules.specs.Rules.TestLoads.{test_load_lent}
use Rattle.rules.specs.Rules.Encoding.{word_bytes}
use Rattle.rules.specs.Cases.Files.{zeros, file, counted, ran, Row, costed, costed_leaves, costed_pair, costed_load}
use Rattle.rules.specs.Cases.Document01.{job, state}
use Rattle.rules.specs.Cases.Readings.{secret_job, zero17, deep, costing, filled}
use Rattle.rules.specs.Cases.Refusals.{list_bit}

-- ---- tables
-- 16 at one kind, else 1; and 1 at one kind, else 16
unfoldable pub heavy : ℕ → List ℕ
heavy k = set window_costs k 16

unfoldable pub light : ℕ → List ℕ
light k = set (replicate 8 16) k 1

-- ---- one kind after the other
-- beqz r0 3; the instruction x; load r1 r2. Only r2 is not public. The wrong path goes on at x.
unfoldable pub following : List ℕ → ℕ → List ℕ
following x w = file (5 ∷ 0 ∷ 3 ∷ 0 ∷ x ++ (2 ∷ 1 ∷ 1 ∷ 2 ∷ [])) 3 zero17 (131067 ∷ zeros 3) w 100

-- Of an instruction x of kind k, which observes the words `seen`, resting on `rests`. A window of one above its 16 has one left for the load;
-- one of exactly 16, and one below, have none: a window is lowered to 0 at least. The same with 1 at this kind alone and a window of 2 and of 1.
unfoldable pub kind_rows : ℕ → List ℕ → List ℕ → List ℕ → List Row
kind_rows k x seen rests =
    let short = 0 ∷ 0 ∷ 2 ∷ 1 ∷ seen ++ (1 ∷ 0 ∷ 2 ∷ 3 ∷ []) in
    let long = 0 ∷ 0 ∷ 2 ∷ 1 ∷ seen ++ (3 ∷ 0 ∷ 1 ∷ 0 ∷ 2 ∷ 3 ∷ []) in
    let ended = ran Finished (4 + length seen / 2) 3 1 (0 ∷ rests) (0 ∷ []) Clean in
    let loaded = ran Finished (5 + length seen / 2) 4 1 (0 ∷ 2 ∷ rests) (0 ∷ []) Speculative in
    costed (following x 17) (heavy k) 14 long loaded
    ∷ costed (following x 16) (heavy k) 14 short ended
    ∷ costed (following x 15) (heavy k) 14 short ended
    ∷ costed (following x 2) (light k) 14 long loaded
    ∷ costed (following x 1) (light k) 14 short ended
    ∷ []

-- skip; assign r3 r4; load r3 r4; store r3 r4; jmp 2; conditional assign r3, if r4, r5, which is not taken; and one that is, if 1
unfoldable pub each_kind : List Row
each_kind =
    kind_rows 0 (0 ∷ []) [] []
    ++ kind_rows 1 (1 ∷ 3 ∷ 1 ∷ 4 ∷ []) [] []
    ++ kind_rows 2 (2 ∷ 3 ∷ 1 ∷ 4 ∷ []) (3 ∷ 0 ∷ []) (4 ∷ [])
    ++ kind_rows 3 (3 ∷ 3 ∷ 1 ∷ 4 ∷ []) (4 ∷ 0 ∷ []) (4 ∷ [])
    ++ kind_rows 4 (4 ∷ 1 ∷ 16 ∷ 2 ∷ zeros 7) (2 ∷ 2 ∷ []) []
    ++ kind_rows 6 (6 ∷ 3 ∷ 1 ∷ 4 ∷ 1 ∷ 5 ∷ []) [] []
    ++ kind_rows 6 (6 ∷ 3 ∷ 1 ∷ 16 ∷ 1 ∷ zeros 7 ++ (1 ∷ 5 ∷ [])) [] []

-- ---- branches and barriers, and several kinds
-- start 0, pc 1, and nothing observed before the rollback
unfoldable pub nothing_after : List ℕ
nothing_after = 0 ∷ 0 ∷ 2 ∷ 1 ∷ 1 ∷ 0 ∷ 2 ∷ 3 ∷ []

unfoldable pub branches_and_barriers : List Row
branches_and_barriers =
    -- a nested beqz r4 3 lowers the old top by its entry, and the new window is what remains: 1 of 17, and 0 of 16 and of 15
    costed (following (5 ∷ 4 ∷ 3 ∷ 0 ∷ []) 17) (heavy 5) 18 (0 ∷ 0 ∷ 2 ∷ 1 ∷ 0 ∷ 1 ∷ 2 ∷ 2 ∷ 3 ∷ 0 ∷ 1 ∷ 1 ∷ 2 ∷ 3 ∷ 1 ∷ 0 ∷ 2 ∷ 3 ∷ [])
    (ran Finished 9 5 2 (0 ∷ 2 ∷ 4 ∷ []) (0 ∷ []) Speculative)
    ∷ costed (following (5 ∷ 4 ∷ 3 ∷ 0 ∷ []) 16) (heavy 5) 18 (0 ∷ 0 ∷ 2 ∷ 1 ∷ 0 ∷ 1 ∷ 2 ∷ 2 ∷ 1 ∷ 1 ∷ 2 ∷ 3 ∷ 1 ∷ 0 ∷ 2 ∷ 3 ∷ [])
    (ran Finished 8 4 2 (0 ∷ 4 ∷ []) (0 ∷ []) Clean)
    ∷ costed (following (5 ∷ 4 ∷ 3 ∷ 0 ∷ []) 15) (heavy 5) 18 (0 ∷ 0 ∷ 2 ∷ 1 ∷ 0 ∷ 1 ∷ 2 ∷ 2 ∷ 1 ∷ 1 ∷ 2 ∷ 3 ∷ 1 ∷ 0 ∷ 2 ∷ 3 ∷ [])
    (ran Finished 8 4 2 (0 ∷ 4 ∷ []) (0 ∷ []) Clean)
    -- three deep, 3 a branch, from 7: 7, then 4 and 4, then 1 and 1
    ∷ costed (secret_job deep 8 zero17 7) (set window_costs 5 3) 1024
    (0 ∷ 0 ∷ 2 ∷ 1 ∷ 0 ∷ 1 ∷ 2 ∷ 2 ∷ 0 ∷ 2 ∷ 2 ∷ 3 ∷ 1 ∷ 2 ∷ 2 ∷ 4 ∷ 3 ∷ 0 ∷ 1 ∷ 1 ∷ 2 ∷ 4 ∷ 3 ∷ 0 ∷ 3 ∷ 0 ∷ 3 ∷ 0 ∷ 3 ∷ 0 ∷ 1 ∷ 0 ∷ 2 ∷ 4
    ∷ 3 ∷ 0 ∷ 3 ∷ 0 ∷ 3 ∷ 0 ∷ 3 ∷ 0 ∷ [])
    (ran Finished 21 16 3 (0 ∷ 1 ∷ 2 ∷ 4 ∷ 5 ∷ 6 ∷ 7 ∷ []) (0 ∷ 4 ∷ 5 ∷ 6 ∷ 7 ∷ []) Speculative)
    -- the outermost opening costs nothing: of a window of 1 the skip is carried out, also where a branch costs 16
    ∷ costed (following (0 ∷ []) 1) (heavy 5) 14 nothing_after (ran Finished 4 3 1 (0 ∷ []) (0 ∷ []) Clean)
    -- spbarr leaves 0, whatever its entry is
    ∷ costed (following (7 ∷ []) 200) window_costs 14 nothing_after (ran Finished 4 3 1 (0 ∷ []) (0 ∷ []) Clean)
    ∷ costed (following (7 ∷ []) 200) (heavy 7) 14 nothing_after (ran Finished 4 3 1 (0 ∷ []) (0 ∷ []) Clean)
    ∷ costed (following (7 ∷ []) 200) (light 7) 14 nothing_after (ran Finished 4 3 1 (0 ∷ []) (0 ∷ []) Clean)
    -- eight different entries: assign 2, store 4, conditional assign 7, jmp 5 and each of two loads 3
    ∷ costed (secret_job costing 7 zero17 18) (1 ∷ 2 ∷ 3 ∷ 4 ∷ 5 ∷ 6 ∷ 7 ∷ 8 ∷ []) 20 (0 ∷ 0 ∷ 2 ∷ 1 ∷ 4 ∷ 0 ∷ 2 ∷ 5 ∷ 1 ∷ 0 ∷ 2 ∷ 7 ∷ [])
    (ran Finished 6 6 1 (0 ∷ 1 ∷ []) (0 ∷ []) Speculative)
    ∷ costed (secret_job costing 7 zero17 19) (1 ∷ 2 ∷ 3 ∷ 4 ∷ 5 ∷ 6 ∷ 7 ∷ 8 ∷ []) 20
    (0 ∷ 0 ∷ 2 ∷ 1 ∷ 4 ∷ 0 ∷ 2 ∷ 5 ∷ 3 ∷ 0 ∷ 1 ∷ 0 ∷ 2 ∷ 7 ∷ []) (ran Finished 7 7 1 (0 ∷ 1 ∷ 3 ∷ []) (0 ∷ []) Speculative)
    ∷ costed (secret_job costing 7 zero17 21) (1 ∷ 2 ∷ 3 ∷ 4 ∷ 5 ∷ 6 ∷ 7 ∷ 8 ∷ []) 20
    (0 ∷ 0 ∷ 2 ∷ 1 ∷ 4 ∷ 0 ∷ 2 ∷ 5 ∷ 3 ∷ 0 ∷ 1 ∷ 0 ∷ 2 ∷ 7 ∷ []) (ran Finished 7 7 1 (0 ∷ 1 ∷ 3 ∷ []) (0 ∷ []) Speculative)
    ∷ costed (secret_job costing 7 zero17 22) (1 ∷ 2 ∷ 3 ∷ 4 ∷ 5 ∷ 6 ∷ 7 ∷ 8 ∷ []) 20
    (0 ∷ 0 ∷ 2 ∷ 1 ∷ 4 ∷ 0 ∷ 2 ∷ 5 ∷ 3 ∷ 0 ∷ 3 ∷ 0 ∷ 1 ∷ 0 ∷ 2 ∷ 7 ∷ []) (ran Finished 8 8 1 (0 ∷ 1 ∷ 3 ∷ 4 ∷ []) (0 ∷ []) Speculative)
    -- both runs of a pair have the table: the load that shows the leak is out of reach
    ∷ costed_pair (job 1 10 100) (word_bytes (state 1 1 0)) (heavy 2) (pair_lent (filled 10) (filled 10) (filled 4096))
    (Ok (paired pairs.Equal (counted Finished 5 4 1) (counted Finished 5 4 1)))
    (pair_lent (0 ∷ 0 ∷ 2 ∷ 2 ∷ 3 ∷ 1 ∷ 1 ∷ 0 ∷ 2 ∷ 4 ∷ []) (0 ∷ 0 ∷ 2 ∷ 2 ∷ 3 ∷ 1 ∷ 1 ∷ 0 ∷ 2 ∷ 4 ∷ []) (zeros 4096))
    -- and both runs of a test load: r2 alone is new, and is loaded from with a window of 17 alone
    ∷ costed_load (following (0 ∷ []) 16) 1 (heavy 0) (test_load_lent (filled 10) (filled 10) (filled 4096) (filled 136))
    (Ok (loads.Compared (paired pairs.Equal (counted Finished 4 3 1) (counted Finished 4 3 1))))
    (test_load_lent (nothing_after ++ filled 2) (nothing_after ++ filled 2) (zeros 4096) (word_bytes (set zero17 2 1082269761)))
    ∷ costed_load (following (0 ∷ []) 17) 1 (heavy 0) (test_load_lent (filled 10) (filled 10) (filled 4096) (filled 136))
    (Ok (loads.Compared (paired pairs.LeakShown (counted Finished 5 4 1) (counted Finished 5 4 1))))
    (test_load_lent (0 ∷ 0 ∷ 2 ∷ 1 ∷ 3 ∷ 0 ∷ 1 ∷ 0 ∷ 2 ∷ 3 ∷ []) (0 ∷ 0 ∷ 2 ∷ 1 ∷ 3 ∷ 1082269761 ∷ 1 ∷ 0 ∷ 2 ∷ 3 ∷ []) (zeros 4096)
    (word_bytes (set zero17 2 1082269761)))
    ∷ []

-- ---- what is turned away, in its order; every area stays as it was
-- of a run with a table, in areas that are long enough
unfoldable pub table_refused : List ℕ → Row
table_refused costs =
    costed_leaves (job 1 10 100) costs (lent (filled 3) (filled 149) (filled 4096)) (run_refused refusals.Costs)
    (lent (filled 3) (filled 149) (filled 4096))

unfoldable pub costs_refused : List Row
costs_refused =
    -- "table not eight bytes or an entry outside 1 to 16"
    table_refused []
    ∷ table_refused (replicate 7 1)
    ∷ table_refused (replicate 9 1)
    ∷ table_refused (set window_costs 0 0)
    ∷ table_refused (set window_costs 7 0)
    ∷ table_refused (set window_costs 0 17)
    ∷ table_refused (set window_costs 7 17)
    ∷ table_refused (set window_costs 3 255)
    -- 8 before 14, and 14 "directly before 10"
    ∷ costed_leaves (list_bit 2 16) [] (lent [] [] []) (run_refused refusals.PublicList) (lent [] [] [])
    ∷ costed_leaves (job 1 10 100) [] (lent [] [] []) (run_refused refusals.Costs) (lent [] [] [])
    ∷ costed_leaves (job 1 10 100) window_costs (lent [] [] []) (run_refused refusals.Areas) (lent [] [] [])
    -- of a pair 9, then 14, then 10
    ∷ costed_pair (job 1 10 100) (zeros 159) [] (pair_lent [] [] []) (Err refusals.SecondState) (pair_lent [] [] [])
    ∷ costed_pair (job 1 10 100) (zeros 160) [] (pair_lent [] [] []) (Err refusals.Costs) (pair_lent [] [] [])
    ∷ costed_pair (job 1 10 100) (zeros 160) window_costs (pair_lent [] [] []) (Err refusals.Areas) (pair_lent [] [] [])
    -- of a test load 14, then 10, then 13
    ∷ costed_load (job 1 10 100) 0 [] (test_load_lent [] [] [] []) (Err refusals.Costs) (test_load_lent [] [] [] [])
    ∷ costed_load (job 1 10 100) 0 (heavy 0) (test_load_lent [] [] [] []) (Err refusals.Areas) (test_load_lent [] [] [] [])
    ∷ costed_load (job 1 10 100) 0 (heavy 0) (test_load_lent [] [] (filled 4096) []) (Err refusals.Seed) (test_load_lent [] [] (filled 4096) [])
    ∷ []
