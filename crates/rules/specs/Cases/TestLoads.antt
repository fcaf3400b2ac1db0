-- Test loads, after document 02, F-3: the words that are made, new states, runs that do not finish, and what is turned away. The words were
-- computed apart from these rules. Tables.antt proves the rows.
-- Assumes nothing.
use Rattle.std.specs.Prelude.{true, false, List, [], ◌∷◌, ◌++◌, ℕ, take, drop, Ok, Err}
use Rattle.rules.specs.declared.Stop.TheVariants.{Finished, Spent, TraceFull}
use Rattle.rules.specs.declared.PairWord.TheVariants as pairs
use Rattle.rules.specs.declared.Refusal.TheVariants as refusals
use Rattle.rules.specs.declared.TestLoad.TheVariants as loads
use Rattle.rules.specs.Rules.Outcomes.{paired}
use Rattle.rules.specs.Rules.Encoding.{word_bytes}
use Rattle.rules.specs.Rules.TestLoads.{test_load_lent}
use Rattle.rules.specs.Cases.Files.{zeros, file, counted, Row, test_leaves, makes, plainly}
use Rattle.rules.specs.Cases.Document01.{job}
use Rattle.rules.specs.Cases.Readings.{secret_job, filled}
use Rattle.rules.specs.Cases.Refusals.{list_bit}

-- ---- the words that are made
-- 2^64 − 1
unfoldable pub highest : ℕ
highest = 18446744073709551615

-- the first fifteen from seed 1
unfoldable pub from_one : List ℕ
from_one =
    1082269761 ∷ 1152992998833853505 ∷ 11177516664432764457 ∷ 17678023832001937445 ∷ 9659130143999365733
    ∷ 17775799001133815809 ∷ 11693034620340510321 ∷ 14279964170112293133 ∷ 9024654201992055039 ∷ 8332670729032836398
    ∷ 2074683623940568804 ∷ 17270571163283330953 ∷ 5632491372296299238 ∷ 10440568676385178531 ∷ 9909853072257765348 ∷ []

-- the first sixteen from seed 2^64 − 1
unfoldable pub from_highest : List ℕ
from_highest =
    1065361344 ∷ 1152851127339773951 ∷ 508277857751731680 ∷ 3609534427018334203 ∷ 2094262820038369316
    ∷ 10952784462617250532 ∷ 1884379439130952689 ∷ 16429531919753378102 ∷ 18122729740907993668 ∷ 11337428289156956144
    ∷ 5793989257272399759 ∷ 8799670602752514400 ∷ 13973873317191320786 ∷ 16806569196111269723 ∷ 8041890133630828933
    ∷ 8668185489037562182 ∷ []

-- left 13, right 7, left 17, "all in 64 bits"; the first word is that after the seed; a word that was made can be the next seed
unfoldable pub xorshift : List Row
xorshift = makes 1 from_one ∷ makes highest from_highest ∷ makes 1082269761 (1152992998833853505 ∷ []) ∷ []

-- ---- new states
-- r0 to r3, the other registers 0
unfoldable pub chosen_state : ℕ → ℕ → ℕ → ℕ → List ℕ
chosen_state a b c d = a ∷ b ∷ c ∷ d ∷ zeros 12

-- beqz r0 2; load r1 r2, with one cell, r3 public
unfoldable pub leaking : List ℕ
leaking = file (5 ∷ 0 ∷ 2 ∷ 0 ∷ 2 ∷ 1 ∷ 1 ∷ 2 ∷ []) 2 (0 ∷ 0 ∷ 0 ∷ 9 ∷ zeros 13) (8 ∷ zeros 3) 10 100

-- its new state from seed 1
unfoldable pub leaked : List ℕ
leaked = 0 ∷ take 2 from_one ++ (9 ∷ drop 2 from_one)

-- beqz r0 2; jmp (r1 eq r0) add (r1 eq r0): on the wrong path the jump ends the program if r1 is 0, else it starts again
unfoldable pub longer : List ℕ
longer = 5 ∷ 0 ∷ 2 ∷ 0 ∷ 4 ∷ 7 ∷ 1 ∷ 0 ∷ 27 ∷ 1 ∷ 0 ∷ 27 ∷ 19 ∷ []

unfoldable pub new_states : List Row
new_states =
    -- r0 is in the plain set and r3 public, all else is new; on the wrong path r2 is an address. The rest of each area stays.
    test_leaves leaking 1 (test_load_lent (filled 11) (filled 11) (filled 4097) (filled 139))
    (Ok (loads.Compared (paired pairs.LeakShown (counted Finished 5 3 1) (counted Finished 5 3 1))))
    (test_load_lent (0 ∷ 0 ∷ 2 ∷ 1 ∷ 3 ∷ 0 ∷ 1 ∷ 0 ∷ 2 ∷ 2 ∷ filled 1) (0 ∷ 0 ∷ 2 ∷ 1 ∷ 3 ∷ 1152992998833853505 ∷ 1 ∷ 0 ∷ 2 ∷ 2 ∷ filled 1)
    (zeros 4096 ++ filled 1) (word_bytes leaked ++ filled 3))
    -- every location public: the new state is the job's own, load r1 r0
    ∷ test_leaves (file (2 ∷ 1 ∷ 1 ∷ 0 ∷ []) 1 (chosen_state 5 6 7 8) (65535 ∷ zeros 3) 10 100) 1 (test_load_lent (filled 2) (filled 2) (filled 4096) (filled 129))
    (Ok (loads.Compared (paired pairs.Equal (counted Finished 1 1 0) (counted Finished 1 1 0))))
    (test_load_lent (3 ∷ 5 ∷ []) (3 ∷ 5 ∷ []) (zeros 4096) (word_bytes (chosen_state 5 6 7 8) ++ filled 1))
    -- m 0 and seed 2^64 − 1: nothing public, nothing seen, so every register is new
    ∷ test_leaves (secret_job (0 ∷ []) 1 (zeros 16) 10) highest (test_load_lent [] [] (filled 4096) (filled 128))
    (Ok (loads.Compared (paired pairs.Equal (counted Finished 0 1 0) (counted Finished 0 1 0)))) (test_load_lent [] [] (zeros 4096) (word_bytes from_highest))
    -- "neither public nor in the plain set, lowest location first": load r4 r0 keeps r0, and all but r0, r1 and r3 are public, the one cell
    -- too; the lowest byte of a word comes first; 128 + 8m bytes are enough
    ∷ test_leaves (file (2 ∷ 4 ∷ 1 ∷ 0 ∷ []) 1 (chosen_state 5 6 7 8 ++ (9 ∷ [])) (131060 ∷ zeros 3) 10 100) 1
    (test_load_lent (filled 3) (filled 3) (filled 4096) (filled 136)) (Ok (loads.Compared (paired pairs.Equal (counted Finished 1 1 0) (counted Finished 1 1 0))))
    (test_load_lent (3 ∷ 5 ∷ filled 1) (3 ∷ 5 ∷ filled 1) (zeros 4096)
    (5 ∷ zeros 7 ++ (65 ∷ 32 ∷ 130 ∷ 64 ∷ 0 ∷ 0 ∷ 0 ∷ 0 ∷ 7 ∷ zeros 7 ++ (65 ∷ 20 ∷ 1 ∷ 12 ∷ 6 ∷ 65 ∷ 0 ∷ 16 ∷ zeros 96 ++ (9 ∷ zeros 7)))))
    -- the run of the new state is spent, the job's own is not
    ∷ test_leaves (file longer 2 (zeros 16) (zeros 4) 10 3) 1 (test_load_lent (filled 11) (filled 11) (filled 4096) (filled 128))
    (Ok (loads.Compared (paired pairs.Undecided (counted Finished 5 3 1) (counted Spent 5 3 0))))
    (test_load_lent (0 ∷ 0 ∷ 2 ∷ 1 ∷ 2 ∷ 2 ∷ 1 ∷ 0 ∷ 2 ∷ 2 ∷ filled 1) (0 ∷ 0 ∷ 2 ∷ 1 ∷ 2 ∷ 0 ∷ 0 ∷ 1 ∷ 2 ∷ 1 ∷ filled 1) (zeros 4096)
    (word_bytes (0 ∷ from_one)))
    ∷ []

-- ---- an own run that has not finished
-- beqz r0 2; skip; load r1 r2
unfoldable pub plain_first : ℕ → List ℕ
plain_first b = file (5 ∷ 0 ∷ 2 ∷ 0 ∷ 0 ∷ 2 ∷ 1 ∷ 1 ∷ 2 ∷ []) 3 (zeros 16) (zeros 4) 10 b

unfoldable pub unfinished : List Row
unfinished =
    -- "its own stop and counts alone, its trace alone is written and no state": spent, and trace full
    test_leaves (job 1 10 4) 1 (test_load_lent (filled 9) (filled 9) (filled 4097) (filled 160)) (Ok (loads.Undecided (counted Spent 4 4 0)))
    (test_load_lent (0 ∷ 0 ∷ 2 ∷ 2 ∷ 3 ∷ 1 ∷ 3 ∷ 3 ∷ filled 1) (filled 9) (zeros 4096 ++ filled 1) (filled 160))
    ∷ test_leaves (job 1 10 100) 1 (test_load_lent (filled 5) (filled 5) (filled 4096) (filled 161)) (Ok (loads.Undecided (counted TraceFull 2 2 0)))
    (test_load_lent (0 ∷ 0 ∷ 2 ∷ 2 ∷ filled 1) (filled 5) (zeros 4096) (filled 161))
    -- "The statement fails for an unfinished run": spent on the wrong path, before the load that the plain run makes; r2 is not yet in the
    -- plain set, so a new state has another word there, and another plain trace.
    ∷ plainly (plain_first 2) 1 Spent false
    ∷ test_leaves (plain_first 2) 1 (test_load_lent (filled 4) (filled 4) (filled 4096) (filled 128)) (Ok (loads.Undecided (counted Spent 2 2 0)))
    (test_load_lent (0 ∷ 0 ∷ 2 ∷ 1 ∷ []) (filled 4) (zeros 4096) (filled 128))
    -- with steps enough it holds
    ∷ plainly (plain_first 100) 1 Finished true
    ∷ []

-- ---- what is turned away, in its order; every area stays as it was
unfoldable pub turned_away : List Row
turned_away =
    -- 8 before 10, 13 and 12
    test_leaves (list_bit 2 16) 0 (test_load_lent (filled 3) (filled 2) (filled 5) []) (Err refusals.PublicList)
    (test_load_lent (filled 3) (filled 2) (filled 5) [])
    -- 10 before 13 and 12: a short working area, unequal trace areas
    ∷ test_leaves (job 1 10 100) 0 (test_load_lent (filled 3) (filled 3) (filled 4095) (filled 159)) (Err refusals.Areas)
    (test_load_lent (filled 3) (filled 3) (filled 4095) (filled 159))
    ∷ test_leaves (job 1 10 100) 0 (test_load_lent (filled 13) (filled 12) (filled 4096) []) (Err refusals.Areas)
    (test_load_lent (filled 13) (filled 12) (filled 4096) [])
    ∷ test_leaves (job 1 10 100) 1 (test_load_lent (filled 12) (filled 13) (filled 4096) (filled 160)) (Err refusals.Areas)
    (test_load_lent (filled 12) (filled 13) (filled 4096) (filled 160))
    -- "13, seed 0, after 10; then 12"
    ∷ test_leaves (job 1 10 100) 0 (test_load_lent (filled 3) (filled 3) (filled 4096) (filled 159)) (Err refusals.Seed)
    (test_load_lent (filled 3) (filled 3) (filled 4096) (filled 159))
    ∷ test_leaves (job 1 10 100) 0 (test_load_lent (filled 13) (filled 13) (filled 4096) (filled 160)) (Err refusals.Seed)
    (test_load_lent (filled 13) (filled 13) (filled 4096) (filled 160))
    -- one byte too few, also where no state would be written
    ∷ test_leaves (job 1 10 100) 1 (test_load_lent (filled 13) (filled 13) (filled 4096) (filled 159)) (Err refusals.Output)
    (test_load_lent (filled 13) (filled 13) (filled 4096) (filled 159))
    ∷ test_leaves (job 1 10 4) 1 (test_load_lent (filled 13) (filled 13) (filled 4096) (filled 159)) (Err refusals.Output)
    (test_load_lent (filled 13) (filled 13) (filled 4096) (filled 159))
    ∷ []
