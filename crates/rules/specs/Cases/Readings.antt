-- Rows of our own: each fails under a misreading that document 01 names, or under a reading that was decided against
-- (docs/DECISIONS.md has the readings by number). Tables.antt proves them.
-- Assumes nothing.
use Rattle.std.specs.Prelude.{List, [], ◌∷◌, ◌++◌, ℕ, set, replicate, Ok, Err}
use Rattle.rules.specs.declared.Stop.TheVariants.{Finished, Spent, TraceFull}
use Rattle.rules.specs.declared.Verdict.TheVariants.{Undecided, Clean, Speculative, Plain}
use Rattle.rules.specs.declared.PairWord.TheVariants as pairs
use Rattle.rules.specs.declared.Refusal.TheVariants as refusals
use Rattle.rules.specs.Rules.Outcomes.{paired}
use Rattle.rules.specs.Rules.Expressions.{tagged}
use Rattle.rules.specs.Rules.Calls.{lent, run_refused, plain_refused}
use Rattle.rules.specs.Rules.Pairs.{pair_lent}
use Rattle.rules.specs.Rules.Encoding.{word_bytes}
use Rattle.rules.specs.Cases.Files.{zeros, file, set_of, counted, ran, plain_ran, Row, run, pair, prints, plain, leaves, plain_leaves, pair_leaves}
use Rattle.rules.specs.Cases.Files.{holds, lines}
use Rattle.rules.specs.Cases.Document01.{job, state, whole_trace, r01, nested_program, public}

-- a program of n instructions with nothing public
unfoldable pub secret_job : List ℕ → ℕ → List ℕ → ℕ → List ℕ
secret_job prog n words w = file prog n words (zeros 4) w 100

-- one cell, all zero
unfoldable pub zero17 : List ℕ
zero17 = zeros 17

-- beqz r0 4; beqz r1 4; beqz r2 4; skip; load r3 r4; load r3 r5; load r3 r6; load r3 r7
unfoldable pub deep : List ℕ
deep =
    5 ∷ 0 ∷ 4 ∷ 0 ∷ 5 ∷ 1 ∷ 4 ∷ 0 ∷ 5 ∷ 2 ∷ 4 ∷ 0 ∷ 0
    ∷ 2 ∷ 3 ∷ 1 ∷ 4 ∷ 2 ∷ 3 ∷ 1 ∷ 5 ∷ 2 ∷ 3 ∷ 1 ∷ 6 ∷ 2 ∷ 3 ∷ 1 ∷ 7 ∷ []

-- beqz r0 5; beqz r1 4; load r2 r3; skip; spbarr
unfoldable pub inner : List ℕ
inner = 5 ∷ 0 ∷ 5 ∷ 0 ∷ 5 ∷ 1 ∷ 4 ∷ 0 ∷ 2 ∷ 2 ∷ 1 ∷ 3 ∷ 0 ∷ 7 ∷ []

-- beqz r0 2; assign r5 r6; load r7 r5
unfoldable pub restoring : List ℕ
restoring = 5 ∷ 0 ∷ 2 ∷ 0 ∷ 1 ∷ 5 ∷ 1 ∷ 6 ∷ 2 ∷ 7 ∷ 1 ∷ 5 ∷ []

-- conditional assign r1, if r2, r3; load r4 r1
unfoldable pub conditionally : List ℕ
conditionally = 6 ∷ 1 ∷ 1 ∷ 2 ∷ 1 ∷ 3 ∷ 2 ∷ 4 ∷ 1 ∷ 1 ∷ []

-- beqz r0 2; skip; beqz r1 4; skip
unfoldable pub twice : List ℕ
twice = 5 ∷ 0 ∷ 2 ∷ 0 ∷ 0 ∷ 5 ∷ 1 ∷ 4 ∷ 0 ∷ 0 ∷ []

-- load r4 r3; beqz r0 3; load r5 r2
unfoldable pub mixed : List ℕ
mixed = 2 ∷ 4 ∷ 1 ∷ 3 ∷ 5 ∷ 0 ∷ 3 ∷ 0 ∷ 2 ∷ 5 ∷ 1 ∷ 2 ∷ []

-- beqz r0 3; skip; skip; load r1 r2
unfoldable pub ending : List ℕ
ending = 5 ∷ 0 ∷ 3 ∷ 0 ∷ 0 ∷ 0 ∷ 2 ∷ 1 ∷ 1 ∷ 2 ∷ []

-- load r2, r0 op r1, for each operator
unfoldable pub operations : List ℕ → List ℕ
operations [] = []
operations (op ∷ ops) = 2 ∷ 2 ∷ 3 ∷ 0 ∷ 1 ∷ op ∷ operations ops

-- no cell, 5 in r0 and a count in r1
unfoldable pub shift_by : ℕ → List ℕ
shift_by k = set (set (zeros 16) 0 5) 1 k

-- beqz r0 7; assign r1 r1; store r1 r1; conditional assign r1, if r1, r1; jmp 5; load r2 r3; load r2 r4
unfoldable pub costing : List ℕ
costing =
    5 ∷ 0 ∷ 7 ∷ 0 ∷ 1 ∷ 1 ∷ 1 ∷ 1 ∷ 3 ∷ 1 ∷ 1 ∷ 1 ∷ 6 ∷ 1 ∷ 1 ∷ 1 ∷ 1 ∷ 1 ∷ 4 ∷ 1 ∷ 16 ∷ 5
    ∷ zeros 7 ++ (2 ∷ 2 ∷ 1 ∷ 3 ∷ 2 ∷ 2 ∷ 1 ∷ 4 ∷ [])

unfoldable pub filled : ℕ → List ℕ
filled n = replicate n 7

unfoldable pub readings : List Row
readings =
    -- windows: the old top is lowered and the new branch has what remains, three deep from 3
    run (secret_job deep 8 zero17 3) 1024
    (0 ∷ 0 ∷ 2 ∷ 1 ∷ 0 ∷ 1 ∷ 2 ∷ 2 ∷ 0 ∷ 2 ∷ 2 ∷ 3 ∷ 1 ∷ 2 ∷ 2 ∷ 4 ∷ 3 ∷ 0 ∷ 1 ∷ 1 ∷ 2 ∷ 4 ∷ 3 ∷ 0 ∷ 3 ∷ 0 ∷ 1 ∷ 0 ∷ 2 ∷ 4 ∷ 3 ∷ 0 ∷ 3 ∷ 0 ∷ 3 ∷ 0 ∷ 3 ∷ 0 ∷ [])
    (ran Finished 19 14 3 (0 ∷ 1 ∷ 2 ∷ 4 ∷ 5 ∷ 6 ∷ 7 ∷ []) (0 ∷ 4 ∷ 5 ∷ 6 ∷ 7 ∷ []) Speculative)
    -- nested windows 1: the opening leaves 0 and 0, so two rollbacks in a row
    ∷ run (file nested_program 3 (zeros 16) (zeros 4) 1 100) 1024
    (0 ∷ 0 ∷ 2 ∷ 1 ∷ 0 ∷ 1 ∷ 2 ∷ 2 ∷ 1 ∷ 1 ∷ 2 ∷ 3 ∷ 1 ∷ 0 ∷ 2 ∷ 3 ∷ []) (ran Finished 8 4 2 r01 (0 ∷ []) Speculative)
    -- a barrier closes the top branch alone: the true side of the inner branch is seen
    ∷ run (secret_job inner 5 (set zero17 1 1) 10) 1024
    (0 ∷ 0 ∷ 2 ∷ 1 ∷ 0 ∷ 1 ∷ 2 ∷ 4 ∷ 1 ∷ 1 ∷ 2 ∷ 2 ∷ 3 ∷ 0 ∷ 1 ∷ 0 ∷ 2 ∷ 5 ∷ [])
    (ran Finished 9 8 2 (0 ∷ 1 ∷ 3 ∷ []) (0 ∷ []) Speculative)
    -- spbarr with nothing open is one step without effect; then load r1 r0
    ∷ run (secret_job (7 ∷ 2 ∷ 1 ∷ 1 ∷ 0 ∷ []) 2 zero17 10) 1024 (3 ∷ 0 ∷ []) (ran Finished 1 2 0 (0 ∷ []) (0 ∷ []) Plain)
    -- a rollback restores sets: r5 rests on itself again
    ∷ run (secret_job restoring 3 zero17 10) 1024 (0 ∷ 0 ∷ 2 ∷ 1 ∷ 3 ∷ 0 ∷ 1 ∷ 0 ∷ 2 ∷ 2 ∷ 3 ∷ 0 ∷ [])
    (ran Finished 6 5 1 (0 ∷ 5 ∷ 6 ∷ []) (0 ∷ 5 ∷ []) Speculative)
    -- a conditional assignment not taken joins the condition's set to the register's own; it assigns if the condition is not 0
    ∷ run (secret_job conditionally 2 (set zero17 3 5) 10) 1024 (3 ∷ 0 ∷ []) (ran Finished 1 2 0 (1 ∷ 2 ∷ []) (1 ∷ 2 ∷ []) Plain)
    ∷ run (secret_job conditionally 2 (set (set zero17 3 5) 2 2) 10) 1024 (3 ∷ 5 ∷ []) (ran Finished 1 2 0 (2 ∷ 3 ∷ []) (2 ∷ 3 ∷ []) Plain)
    -- jmp r0 past the end goes to END and is observed there, and the value's set joins D; falling off the end is not observed
    ∷ run (secret_job (4 ∷ 1 ∷ 0 ∷ 0 ∷ []) 2 (set (zeros 16) 0 9) 10) 1024 (2 ∷ 2 ∷ []) (ran Finished 1 1 0 (0 ∷ []) (0 ∷ []) Plain)
    ∷ run (secret_job (0 ∷ []) 1 (zeros 16) 10) 1024 [] (ran Finished 0 1 0 [] [] Clean)
    -- ids count all branches opened and are never used again
    ∷ run (file twice 4 (zeros 16) public 10 100) 1024
    (0 ∷ 0 ∷ 2 ∷ 1 ∷ 0 ∷ 1 ∷ 2 ∷ 3 ∷ 1 ∷ 1 ∷ 2 ∷ 4 ∷ 1 ∷ 0 ∷ 2 ∷ 2 ∷ 0 ∷ 2 ∷ 2 ∷ 3 ∷ 1 ∷ 2 ∷ 2 ∷ 4 ∷ []) (ran Finished 12 9 3 r01 r01 Clean)
    -- a window that runs out in the middle: the true target is gone on from
    ∷ run (file ending 4 zero17 public 2 100) 1024 (0 ∷ 0 ∷ 2 ∷ 1 ∷ 1 ∷ 0 ∷ 2 ∷ 3 ∷ 3 ∷ 0 ∷ []) (ran Finished 5 5 1 (0 ∷ 2 ∷ []) (0 ∷ 2 ∷ []) Plain)
    -- speculative, though a location of the plain set is not public either; with r2 public the verdict is plain
    ∷ run (file mixed 3 zero17 public 10 100) 1024 (3 ∷ 0 ∷ 0 ∷ 0 ∷ 2 ∷ 2 ∷ 3 ∷ 0 ∷ 1 ∷ 0 ∷ 2 ∷ 3 ∷ [])
    (ran Finished 6 4 1 (0 ∷ 2 ∷ 3 ∷ []) (0 ∷ 3 ∷ []) Speculative)
    ∷ run (file mixed 3 zero17 (5 ∷ zeros 3) 10 100) 1024 (3 ∷ 0 ∷ 0 ∷ 0 ∷ 2 ∷ 2 ∷ 3 ∷ 0 ∷ 1 ∷ 0 ∷ 2 ∷ 3 ∷ [])
    (ran Finished 6 4 1 (0 ∷ 2 ∷ 3 ∷ []) (0 ∷ 3 ∷ []) Plain)
    -- m 0: load r1 r0; store r1 r0; load r2 r1
    ∷ run (secret_job (2 ∷ 1 ∷ 1 ∷ 0 ∷ 3 ∷ 1 ∷ 1 ∷ 0 ∷ 2 ∷ 2 ∷ 1 ∷ 1 ∷ []) 3 (zeros 16) 10) 1024 (3 ∷ 0 ∷ 4 ∷ 0 ∷ 3 ∷ 0 ∷ [])
    (ran Finished 3 3 0 (0 ∷ []) (0 ∷ []) Plain)
    -- the trace area: an odd last word, room for one observation only, and none at all
    ∷ run (job 1 10 100) 5 (0 ∷ 0 ∷ 2 ∷ 2 ∷ []) (ran TraceFull 2 2 0 r01 r01 Undecided)
    ∷ run (job 1 10 100) 3 [] (ran TraceFull 0 1 0 [] [] Undecided)
    ∷ run (job 1 10 100) 0 [] (ran TraceFull 0 1 0 [] [] Undecided)
    -- spent is tried before trace full, and finished before both
    ∷ run (job 1 10 1) 0 [] (ran Spent 0 1 0 [] [] Undecided)
    ∷ run (secret_job (0 ∷ []) 1 (zeros 16) 10) 0 [] (ran Finished 0 1 0 [] [] Clean)
    -- a rollback with room for one observation writes nothing
    ∷ run (job 1 0 100) 7 (0 ∷ 0 ∷ 2 ∷ 2 ∷ []) (ran TraceFull 2 2 0 r01 r01 Undecided)
    -- the plain run of the printed job, out of steps, and out of room
    ∷ plain (job 1 10 100) 1024 (2 ∷ 4 ∷ []) (plain_ran Finished 1 2 r01)
    ∷ plain (job 0 10 3) 1024 (2 ∷ 2 ∷ 3 ∷ 0 ∷ []) (plain_ran Spent 2 3 r01)
    ∷ plain (job 0 10 100) 5 (2 ∷ 2 ∷ 3 ∷ 0 ∷ []) (plain_ran TraceFull 2 3 r01)
    -- the address's set in a load and in a store, and outside the image: load r1 r0; load r1 r0 at 5, where nothing was stored;
    -- store r1 r0; store r1 r0 at 1, which no cell takes
    ∷ holds (secret_job (2 ∷ 1 ∷ 1 ∷ 0 ∷ []) 1 (set zero17 16 9) 10) 1 (tagged 9 (set_of (0 ∷ 16 ∷ [])))
    ∷ holds (secret_job (2 ∷ 1 ∷ 1 ∷ 0 ∷ []) 1 (set (set zero17 0 5) 1 4) 10) 1 (tagged 0 (set_of (0 ∷ [])))
    ∷ holds (secret_job (3 ∷ 1 ∷ 1 ∷ 0 ∷ []) 1 (set zero17 1 9) 10) 16 (tagged 9 (set_of (0 ∷ 1 ∷ [])))
    ∷ holds (secret_job (3 ∷ 1 ∷ 1 ∷ 0 ∷ []) 1 (set (set zero17 0 1) 16 4) 10) 16 (tagged 4 (set_of (16 ∷ [])))
    -- the condition's set where not taken, and what it does not join
    ∷ holds (secret_job conditionally 2 (set zero17 3 5) 10) 1 (tagged 0 (set_of (1 ∷ 2 ∷ [])))
    ∷ holds (secret_job conditionally 2 (set (set zero17 3 5) 2 2) 10) 1 (tagged 5 (set_of (2 ∷ 3 ∷ [])))
    -- all areas after a run that stopped inside the wrong path, and after a refusal for a short end or working area
    ∷ leaves (job 1 10 3) (record { trace = filled 9; end = filled 150; work = filled 4097 }) (ran Spent 3 3 0 r01 r01 Undecided)
    (record {
      trace = 0 ∷ 0 ∷ 2 ∷ 2 ∷ 3 ∷ 1 ∷ filled 3;
      end = 1 ∷ 1 ∷ 0 ∷ 1 ∷ zeros 13 ++ (1 ∷ zeros 131 ++ filled 1);
      work = zeros 4096 ++ filled 1;
    })
    ∷ leaves (job 1 10 3) (record { trace = filled 9; end = filled 148; work = filled 4096 }) (run_refused refusals.Areas)
    (record { trace = filled 9; end = filled 148; work = filled 4096 })
    ∷ leaves (job 1 10 3) (record { trace = filled 9; end = filled 149; work = filled 4095 }) (run_refused refusals.Areas)
    (record { trace = filled 9; end = filled 149; work = filled 4095 })
    -- only a place is printed as "end"; locations ascend, cells by their address; a missing file is an empty job
    ∷ prints (secret_job (2 ∷ 1 ∷ 1 ∷ 0 ∷ 2 ∷ 2 ∷ 1 ∷ 1 ∷ []) 2 (set zero17 0 2) 10)
    (lines ("load 2" ∷ "load 0" ∷ "stop finished" ∷ "steps 2" ∷ "rollbacks 0" ∷ "depends r0" ∷ "plain r0" ∷ "verdict plain" ∷ "first r0 0 load 0" ∷ []))
    ∷ prints (secret_job (2 ∷ 1 ∷ 1 ∷ 0 ∷ 2 ∷ 2 ∷ 1 ∷ 1 ∷ []) 2 zero17 10)
    (lines
    ("load 0" ∷ "load 0" ∷ "stop finished" ∷ "steps 2" ∷ "rollbacks 0" ∷ "depends r0 m0" ∷ "plain r0 m0" ∷ "verdict plain" ∷ "first r0 0 load 0" ∷ "first m0 1 load 1" ∷ []))
    ∷ prints (secret_job (0 ∷ []) 1 (zeros 16) 0)
    (lines ("stop finished" ∷ "steps 1" ∷ "rollbacks 0" ∷ "depends" ∷ "plain" ∷ "verdict clean" ∷ []))
    ∷ prints [] (lines ("refused 1" ∷ []))
    -- pairs: not comparable comes first, then undecided; plain traces, then full traces; both traces are written in every case
    ∷ pair (job 1 10 100) (word_bytes (state 0 1 1)) 12 whole_trace (0 ∷ 0 ∷ 2 ∷ 4 ∷ 1 ∷ 0 ∷ 2 ∷ 2 ∷ 3 ∷ 0 ∷ 3 ∷ 2 ∷ [])
    (Ok (paired pairs.NotComparable (counted Finished 6 5 1) (counted Finished 6 5 1)))
    ∷ pair (job 1 10 4) (word_bytes (state 0 1 1)) 4 (0 ∷ 0 ∷ 2 ∷ 2 ∷ []) (0 ∷ 0 ∷ 2 ∷ 4 ∷ [])
    (Ok (paired pairs.NotComparable (counted TraceFull 2 2 0) (counted TraceFull 2 2 0)))
    ∷ pair (job 1 10 4) (word_bytes (state 1 1 0)) 12 (0 ∷ 0 ∷ 2 ∷ 2 ∷ 3 ∷ 1 ∷ 3 ∷ 3 ∷ []) (0 ∷ 0 ∷ 2 ∷ 2 ∷ 3 ∷ 1 ∷ 3 ∷ 2 ∷ [])
    (Ok (paired pairs.Undecided (counted Spent 4 4 0) (counted Spent 4 4 0)))
    ∷ pair (job 0 10 100) (word_bytes (set (state 0 1 1) 16 3)) 12 (0 ∷ 0 ∷ 2 ∷ 4 ∷ 1 ∷ 0 ∷ 2 ∷ 2 ∷ 3 ∷ 0 ∷ 3 ∷ 2 ∷ [])
    (0 ∷ 0 ∷ 2 ∷ 4 ∷ 1 ∷ 0 ∷ 2 ∷ 2 ∷ 3 ∷ 0 ∷ 3 ∷ 5 ∷ []) (Ok (paired pairs.PlainDiffers (counted Finished 6 5 1) (counted Finished 6 5 1)))
    ∷ pair (job 1 10 100) (word_bytes (set (state 1 1 1) 18 8)) 12 whole_trace whole_trace
    (Ok (paired pairs.Equal (counted Finished 6 5 1) (counted Finished 6 5 1)))
    ∷ pair (job 1 10 100) (zeros 159) 12 [] [] (Err refusals.SecondState)
    ∷ []

-- what each instruction, operator and constant does to values, sets and windows
unfoldable pub details : List Row
details =
    -- a pair with nothing public, one run of the two not finished: each run has its own counts
    pair (secret_job (4 ∷ 1 ∷ 0 ∷ []) 1 (set (zeros 16) 0 1) 10) (word_bytes (zeros 16)) 4 (2 ∷ 1 ∷ []) (2 ∷ 0 ∷ 2 ∷ 0 ∷ [])
    (Ok (paired pairs.Undecided (counted Finished 1 1 0) (counted TraceFull 2 2 0)))
    ∷ pair (secret_job (4 ∷ 1 ∷ 0 ∷ []) 1 (zeros 16) 10) (word_bytes (set (zeros 16) 0 1)) 4 (2 ∷ 0 ∷ 2 ∷ 0 ∷ []) (2 ∷ 1 ∷ [])
    (Ok (paired pairs.Undecided (counted TraceFull 2 2 0) (counted Finished 1 1 0)))
    -- the tokens of the operators: 19 to 28 on 29 and 3, and ult the other way round; 17 and 18 on 1
    ∷ run
    (secret_job (operations (19 ∷ 20 ∷ 21 ∷ 22 ∷ 23 ∷ 24 ∷ 25 ∷ 26 ∷ 27 ∷ 28 ∷ []) ++ (2 ∷ 2 ∷ 3 ∷ 1 ∷ 0 ∷ 28 ∷ [])) 11
    (set (set (zeros 16) 0 29) 1 3) 10)
    1024 (3 ∷ 32 ∷ 3 ∷ 26 ∷ 3 ∷ 87 ∷ 3 ∷ 1 ∷ 3 ∷ 31 ∷ 3 ∷ 30 ∷ 3 ∷ 232 ∷ 3 ∷ 3 ∷ 3 ∷ 0 ∷ 3 ∷ 0 ∷ 3 ∷ 1 ∷ []) (ran Finished 11 11 0 r01 r01 Plain)
    ∷ holds (secret_job (1 ∷ 1 ∷ 2 ∷ 0 ∷ 17 ∷ []) 1 (set zero17 0 1) 10) 1 (tagged 18446744073709551615 (set_of (0 ∷ [])))
    ∷ holds (secret_job (1 ∷ 1 ∷ 2 ∷ 0 ∷ 18 ∷ []) 1 (set zero17 0 1) 10) 1 (tagged 18446744073709551614 (set_of (0 ∷ [])))
    -- "a shift by 64 now gives the left operand": load r2, r0 shl r1 and load r2, r0 shr r1, with both operands' sets; the plain run likewise
    ∷ run (secret_job (operations (25 ∷ 26 ∷ [])) 2 (shift_by 64) 10) 1024 (3 ∷ 5 ∷ 3 ∷ 5 ∷ []) (ran Finished 2 2 0 r01 r01 Plain)
    ∷ plain (secret_job (operations (25 ∷ 26 ∷ [])) 2 (shift_by 64) 10) 1024 (3 ∷ 5 ∷ 3 ∷ 5 ∷ []) (plain_ran Finished 2 2 r01)
    -- by 66 as by 2: assign r2, r0 shl r1 and assign r2, r0 shr r1
    ∷ holds (secret_job (1 ∷ 2 ∷ 3 ∷ 0 ∷ 1 ∷ 25 ∷ []) 1 (shift_by 66) 10) 2 (tagged 20 (set_of r01))
    ∷ holds (secret_job (1 ∷ 2 ∷ 3 ∷ 0 ∷ 1 ∷ 26 ∷ []) 1 (shift_by 66) 10) 2 (tagged 1 (set_of r01))
    -- a pair whose counts are 64 and 128: equal traces, though r1 is in D
    ∷ pair (secret_job (operations (25 ∷ [])) 1 (shift_by 64) 10) (word_bytes (shift_by 128)) 2 (3 ∷ 5 ∷ []) (3 ∷ 5 ∷ [])
    (Ok (paired pairs.Equal (counted Finished 1 1 0) (counted Finished 1 1 0)))
    -- a constant: its bytes, the lowest first, and the empty set
    ∷ holds (secret_job (1 ∷ 1 ∷ 1 ∷ 16 ∷ 1 ∷ 2 ∷ 3 ∷ 4 ∷ 5 ∷ 6 ∷ 7 ∷ 8 ∷ []) 1 zero17 10) 1 (tagged 578437695752307201 (set_of []))
    -- addresses near 2^64 are outside, also where 16 + address would wrap; the full address of a store is seen, and its set gathered
    ∷ holds (secret_job (2 ∷ 1 ∷ 1 ∷ 0 ∷ []) 1 (set (set zero17 0 18446744073709551600) 1 4) 10) 1 (tagged 0 (set_of (0 ∷ [])))
    ∷ holds (secret_job (3 ∷ 1 ∷ 1 ∷ 0 ∷ []) 1 (set zero17 0 18446744073709551600) 10) 0 (tagged 18446744073709551600 (set_of (0 ∷ [])))
    ∷ run (secret_job (3 ∷ 1 ∷ 1 ∷ 0 ∷ []) 1 (set zero17 0 5) 10) 1024 (4 ∷ 5 ∷ []) (ran Finished 1 1 0 (0 ∷ []) (0 ∷ []) Plain)
    -- a rollback restores memory (beqz r0 2; store r6 r5) and values
    ∷ holds (secret_job (5 ∷ 0 ∷ 2 ∷ 0 ∷ 3 ∷ 6 ∷ 1 ∷ 5 ∷ 0 ∷ []) 3 (set zero17 6 9) 10) 16 (tagged 0 (set_of (16 ∷ [])))
    ∷ holds (secret_job restoring 3 (set zero17 6 9) 10) 5 (tagged 0 (set_of (5 ∷ [])))
    -- assign, store, conditional assign and jmp each cost 1 of the window: one load is left of 5
    ∷ run (secret_job costing 7 zero17 5) 1024 (0 ∷ 0 ∷ 2 ∷ 1 ∷ 4 ∷ 0 ∷ 2 ∷ 5 ∷ 3 ∷ 0 ∷ 1 ∷ 0 ∷ 2 ∷ 7 ∷ [])
    (ran Finished 7 7 1 (0 ∷ 1 ∷ 3 ∷ []) (0 ∷ []) Speculative)
    -- a rollback is a step, counted against b
    ∷ run (job 0 10 3) 1024 (0 ∷ 0 ∷ 2 ∷ 4 ∷ 1 ∷ 0 ∷ 2 ∷ 2 ∷ []) (ran Spent 4 3 1 r01 r01 Undecided)
    ∷ []

-- every word of every area, after runs and after refusals
unfoldable pub areas_left : List Row
areas_left =
    -- a second state one byte too long
    pair (job 1 10 100) (zeros 161) 12 [] [] (Err refusals.SecondState)
    -- refusal 1 comes before 10; an end area of just 16 + m + 129 words is enough
    ∷ leaves [] (lent (filled 3) [] []) (run_refused refusals.Length) (lent (filled 3) [] [])
    ∷ leaves (job 1 10 3) (lent (filled 9) (filled 149) (filled 4096)) (ran Spent 3 3 0 r01 r01 Undecided)
    (lent (0 ∷ 0 ∷ 2 ∷ 2 ∷ 3 ∷ 1 ∷ filled 3) (1 ∷ 1 ∷ 0 ∷ 1 ∷ zeros 13 ++ (1 ∷ zeros 131)) (zeros 4096))
    -- all areas after a plain run, and after its refusals
    ∷ plain_leaves (job 0 10 3) (lent (filled 9) (filled 150) (filled 4097)) (plain_ran Spent 2 3 r01)
    (lent (2 ∷ 2 ∷ 3 ∷ 0 ∷ filled 5) (0 ∷ 1 ∷ 1 ∷ zeros 14 ++ (1 ∷ zeros 131 ++ filled 1)) (zeros 4096 ++ filled 1))
    ∷ plain_leaves (job 1 10 3) (lent (filled 9) (filled 148) (filled 4096)) (plain_refused refusals.Areas)
    (lent (filled 9) (filled 148) (filled 4096))
    ∷ plain_leaves (job 1 10 3) (lent (filled 9) (filled 149) (filled 4095)) (plain_refused refusals.Areas)
    (lent (filled 9) (filled 149) (filled 4095))
    ∷ plain_leaves [] (lent (filled 3) [] []) (plain_refused refusals.Length) (lent (filled 3) [] [])
    -- all areas after a pair, and after its refusals: 9 before 10, a short working area, unequal trace areas
    ∷ pair_leaves (job 1 10 100) (word_bytes (state 1 1 0)) (pair_lent (filled 13) (filled 13) (filled 4097))
    (Ok (paired pairs.LeakShown (counted Finished 6 5 1) (counted Finished 6 5 1)))
    (pair_lent (whole_trace ++ filled 1) (0 ∷ 0 ∷ 2 ∷ 2 ∷ 3 ∷ 1 ∷ 3 ∷ 2 ∷ 1 ∷ 0 ∷ 2 ∷ 4 ∷ filled 1) (zeros 4096 ++ filled 1))
    ∷ pair_leaves (job 1 10 100) (zeros 159) (pair_lent (filled 3) (filled 4) []) (Err refusals.SecondState) (pair_lent (filled 3) (filled 4) [])
    ∷ pair_leaves (job 1 10 100) (word_bytes (state 1 1 0)) (pair_lent (filled 3) (filled 3) (filled 4095)) (Err refusals.Areas)
    (pair_lent (filled 3) (filled 3) (filled 4095))
    ∷ pair_leaves (job 1 10 100) (word_bytes (state 1 1 0)) (pair_lent (filled 13) (filled 12) (filled 4096)) (Err refusals.Areas)
    (pair_lent (filled 13) (filled 12) (filled 4096))
    ∷ []

-- the listing: ids and places in decimal, END as "end"; the longest number; spent; the word alone where a set is empty
unfoldable pub listings : List Row
listings =
    prints (secret_job (5 ∷ 0 ∷ 0 ∷ 0 ∷ []) 1 (set (zeros 16) 0 1) 1)
    (lines
    ("start 0" ∷ "pc 0" ∷ "start 1" ∷ "pc 0" ∷ "rollback 1" ∷ "pc end" ∷ "rollback 0" ∷ "pc end" ∷ "stop finished" ∷ "steps 4" ∷ "rollbacks 2" ∷ "depends r0" ∷ "plain r0" ∷ "verdict plain" ∷ "first r0 0 branch 0" ∷ []))
    ∷ prints (secret_job (3 ∷ 1 ∷ 1 ∷ 0 ∷ 3 ∷ 1 ∷ 1 ∷ 2 ∷ []) 2 (set (set (zeros 16) 0 18446744073709551615) 2 2) 10)
    (lines
    ("store 18446744073709551615" ∷ "store 2" ∷ "stop finished" ∷ "steps 2" ∷ "rollbacks 0" ∷ "depends r0 r2" ∷ "plain r0 r2" ∷ "verdict plain" ∷ "first r0 0 store 0" ∷ "first r2 1 store 1" ∷ []))
    ∷ prints (job 1 10 0) (lines ("stop spent" ∷ "steps 0" ∷ "rollbacks 0" ∷ "depends" ∷ "plain" ∷ "verdict undecided" ∷ []))
    ∷ []
