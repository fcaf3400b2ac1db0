-- Stores outside the image, after document 02, F-4: what is remembered, what a rollback restores, the end area, and a run that would need a
-- 65th address. Tables.antt proves the rows.
-- Assumes nothing.
use Rattle.std.specs.Prelude.{List, [], ◌∷◌, ◌++◌, ℕ, zero, suc, ◌+◌, ◌/◌, ◌%◌, set, Ok}
use Rattle.rules.specs.declared.Stop.TheVariants.{Finished, Spent, TraceFull, OutsideFull}
use Rattle.rules.specs.declared.Verdict.TheVariants.{Undecided, Clean, Speculative, Plain}
use Rattle.rules.specs.declared.PairWord.TheVariants as pairs
use Rattle.rules.specs.declared.Refusal.TheVariants as refusals
use Rattle.rules.specs.declared.TestLoad.TheVariants as loads
use Rattle.rules.specs.Rules.Outcomes.{paired}
use Rattle.rules.specs.Rules.Answers.{text}
use Rattle.rules.specs.Rules.Expressions.{tagged}
use Rattle.rules.specs.Rules.Plain.{Entry}
use Rattle.rules.specs.Rules.Encoding.{word_bytes}
use Rattle.rules.specs.Rules.Calls.{lent, run_refused, plain_refused}
use Rattle.rules.specs.Rules.TestLoads.{test_load_lent}
use Rattle.rules.specs.Cases.Files.{zeros, file, lines, set_of, counted, ran, plain_ran, Row, run, plain, pair, prints, leaves, plain_leaves}
use Rattle.rules.specs.Cases.Files.{test_leaves, ends, holds, keeps}
use Rattle.rules.specs.Cases.Readings.{secret_job, filled}
use Rattle.rules.specs.Cases.TestLoads.{highest}
use Rattle.rules.specs.Cases.Refusals.{skips}

-- ---- what is remembered
-- an entry by its address, its value and the locations of its set
unfoldable pub entry : ℕ → ℕ → List ℕ → Entry
entry a v ls = record { address = a; word = tagged v (set_of ls) }

-- r0 to r7, the other registers 0, and one cell: r2 and r3 have one address outside, r4 another
unfoldable pub spilled : List ℕ
spilled = 0 ∷ 9 ∷ 5 ∷ 5 ∷ 7 ∷ 6 ∷ 8 ∷ 0 ∷ zeros 9

-- store r1 r2; store r5 r4; store r6 r3; load r7 5
unfoldable pub replacing : List ℕ
replacing = 3 ∷ 1 ∷ 1 ∷ 2 ∷ 3 ∷ 5 ∷ 1 ∷ 4 ∷ 3 ∷ 6 ∷ 1 ∷ 3 ∷ 2 ∷ 7 ∷ 1 ∷ 16 ∷ 5 ∷ zeros 7

-- beqz r0 2; store r1 r2; load r6 r2
unfoldable pub first_stored : List ℕ
first_stored = 5 ∷ 0 ∷ 2 ∷ 0 ∷ 3 ∷ 1 ∷ 1 ∷ 2 ∷ 2 ∷ 6 ∷ 1 ∷ 2 ∷ []

-- store r5 r2; beqz r0 3; store r1 r2; load r6 r3
unfoldable pub stored_again : List ℕ
stored_again = 3 ∷ 5 ∷ 1 ∷ 2 ∷ 5 ∷ 0 ∷ 3 ∷ 0 ∷ 3 ∷ 1 ∷ 1 ∷ 2 ∷ 2 ∷ 6 ∷ 1 ∷ 3 ∷ []

-- beqz r0 5; store r1 r2; beqz r0 4; store r6 r2; load r7 r2; load r8 r7
unfoldable pub stored_inside : List ℕ
stored_inside =
    5 ∷ 0 ∷ 5 ∷ 0 ∷ 3 ∷ 1 ∷ 1 ∷ 2 ∷ 5 ∷ 0 ∷ 4 ∷ 0 ∷ 3 ∷ 6 ∷ 1 ∷ 2
    ∷ 2 ∷ 7 ∷ 1 ∷ 2 ∷ 2 ∷ 8 ∷ 1 ∷ 7 ∷ []

-- beqz r0 2; store r1 r2; store r1 r4; store r5 r2
unfoldable pub ordered : List ℕ
ordered = 5 ∷ 0 ∷ 2 ∷ 0 ∷ 3 ∷ 1 ∷ 1 ∷ 2 ∷ 3 ∷ 1 ∷ 1 ∷ 4 ∷ 3 ∷ 5 ∷ 1 ∷ 2 ∷ []

-- store r1 r2; beqz r0 4; load r6 r2; load r7 r6, with r0 and r2 public
unfoldable pub spilling : List ℕ
spilling = file (3 ∷ 1 ∷ 1 ∷ 2 ∷ 5 ∷ 0 ∷ 4 ∷ 0 ∷ 2 ∷ 6 ∷ 1 ∷ 2 ∷ 2 ∷ 7 ∷ 1 ∷ 6 ∷ []) 4 spilled (5 ∷ zeros 3) 10 100

unfoldable pub outside : List Row
outside =
    -- "remembered, with its set": store r1 r2; load r6 r3. The store gives the union of the address's set and the register's, the load that
    -- of the address's and the remembered one.
    keeps (secret_job (3 ∷ 1 ∷ 1 ∷ 2 ∷ 2 ∷ 6 ∷ 1 ∷ 3 ∷ []) 2 spilled 10) (entry 5 9 (1 ∷ 2 ∷ []) ∷ [])
    ∷ holds (secret_job (3 ∷ 1 ∷ 1 ∷ 2 ∷ 2 ∷ 6 ∷ 1 ∷ 3 ∷ []) 2 spilled 10) 6 (tagged 9 (set_of (1 ∷ 2 ∷ 3 ∷ [])))
    ∷ run (secret_job (3 ∷ 1 ∷ 1 ∷ 2 ∷ 2 ∷ 6 ∷ 1 ∷ 3 ∷ []) 2 spilled 10) 1024 (4 ∷ 5 ∷ 3 ∷ 5 ∷ []) (ran Finished 2 2 0 (2 ∷ 3 ∷ []) (2 ∷ 3 ∷ []) Plain)
    -- "a later store to a remembered address replaces it": the new set is not joined with the old one, and the entry keeps its place
    ∷ keeps (secret_job replacing 4 spilled 10) (entry 5 8 (3 ∷ 6 ∷ []) ∷ entry 7 6 (4 ∷ 5 ∷ []) ∷ [])
    ∷ holds (secret_job replacing 4 spilled 10) 7 (tagged 8 (set_of (3 ∷ 6 ∷ [])))
    -- "Unwritten addresses still read 0 with the address's set", though another address is remembered: store r1 r2; load r6 r4
    ∷ holds (secret_job (3 ∷ 1 ∷ 1 ∷ 2 ∷ 2 ∷ 6 ∷ 1 ∷ 4 ∷ []) 2 spilled 10) 6 (tagged 0 (set_of (4 ∷ [])))
    -- "a rollback restores the table too": an address first stored on the wrong path is unwritten after it
    ∷ holds (secret_job first_stored 3 spilled 10) 6 (tagged 0 (set_of (2 ∷ [])))
    ∷ keeps (secret_job first_stored 3 spilled 10) []
    -- a word that was replaced on the wrong path is there again, with its set
    ∷ holds (secret_job stored_again 4 spilled 10) 6 (tagged 6 (set_of (2 ∷ 3 ∷ 5 ∷ [])))
    ∷ keeps (secret_job stored_again 4 spilled 10) (entry 5 6 (2 ∷ 5 ∷ []) ∷ [])
    -- the inner rollback restores what the outer wrong path had stored: load r8 r7 is at 8, then at 9, and last at r7's first word
    ∷ run (secret_job stored_inside 6 spilled 10) 1024
    (0 ∷ 0 ∷ 2 ∷ 1 ∷ 4 ∷ 5 ∷ 0 ∷ 1 ∷ 2 ∷ 3 ∷ 4 ∷ 5 ∷ 3 ∷ 5 ∷ 3 ∷ 8 ∷ 1 ∷ 1 ∷ 2 ∷ 4 ∷ 3 ∷ 5 ∷ 3 ∷ 9 ∷ 1 ∷ 0 ∷ 2 ∷ 5 ∷ 3 ∷ 0 ∷ [])
    (ran Finished 15 11 2 (0 ∷ 1 ∷ 2 ∷ 6 ∷ 7 ∷ []) (0 ∷ 7 ∷ []) Speculative)
    -- "in order of first store": what was first stored on the wrong path has no place in the order after it
    ∷ keeps (secret_job ordered 4 spilled 10) (entry 7 9 (1 ∷ 4 ∷ []) ∷ entry 5 6 (2 ∷ 5 ∷ []) ∷ [])
    -- a word that is stored outside, loaded on the wrong path and used as an address there: its set is in D, and a pair shows the leak
    ∷ run spilling 1024 (4 ∷ 5 ∷ 0 ∷ 0 ∷ 2 ∷ 2 ∷ 3 ∷ 5 ∷ 3 ∷ 9 ∷ 1 ∷ 0 ∷ 2 ∷ 4 ∷ []) (ran Finished 7 5 1 (0 ∷ 1 ∷ 2 ∷ []) (0 ∷ 2 ∷ []) Speculative)
    ∷ pair spilling (word_bytes (set spilled 1 8)) 14 (4 ∷ 5 ∷ 0 ∷ 0 ∷ 2 ∷ 2 ∷ 3 ∷ 5 ∷ 3 ∷ 9 ∷ 1 ∷ 0 ∷ 2 ∷ 4 ∷ [])
    (4 ∷ 5 ∷ 0 ∷ 0 ∷ 2 ∷ 2 ∷ 3 ∷ 5 ∷ 3 ∷ 8 ∷ 1 ∷ 0 ∷ 2 ∷ 4 ∷ []) (Ok (paired pairs.LeakShown (counted Finished 7 5 1) (counted Finished 7 5 1)))
    -- "Both runs of a comparison start with nothing outside": load r6 r2; load r7 r6; store r1 r2
    ∷ pair (secret_job (2 ∷ 6 ∷ 1 ∷ 2 ∷ 2 ∷ 7 ∷ 1 ∷ 6 ∷ 3 ∷ 1 ∷ 1 ∷ 2 ∷ []) 3 spilled 10) (word_bytes spilled) 6 (3 ∷ 5 ∷ 3 ∷ 0 ∷ 4 ∷ 5 ∷ [])
    (3 ∷ 5 ∷ 3 ∷ 0 ∷ 4 ∷ 5 ∷ []) (Ok (paired pairs.Equal (counted Finished 3 3 0) (counted Finished 3 3 0)))
    -- and so do those of a test load, here with every location public, so that the new state is the job's own
    ∷ test_leaves (file (2 ∷ 6 ∷ 1 ∷ 2 ∷ 2 ∷ 7 ∷ 1 ∷ 6 ∷ 3 ∷ 1 ∷ 1 ∷ 2 ∷ []) 3 spilled (131071 ∷ zeros 3) 10 100) 1
    (test_load_lent (filled 6) (filled 6) (filled 4096) (filled 136)) (Ok (loads.Compared (paired pairs.Equal (counted Finished 3 3 0) (counted Finished 3 3 0))))
    (test_load_lent (3 ∷ 5 ∷ 3 ∷ 0 ∷ 4 ∷ 5 ∷ []) (3 ∷ 5 ∷ 3 ∷ 0 ∷ 4 ∷ 5 ∷ []) (zeros 4096) (word_bytes spilled))
    -- with m 0 the address 0 is outside: store r1 r0; load r6 r0
    ∷ holds (secret_job (3 ∷ 1 ∷ 1 ∷ 0 ∷ 2 ∷ 6 ∷ 1 ∷ 0 ∷ []) 2 (0 ∷ 9 ∷ zeros 14) 10) 6 (tagged 9 (set_of (0 ∷ 1 ∷ [])))
    -- the address 2^64 − 1, and 2^64 − 16 where 16 + address would wrap: store r1 r2; store r5 r3; load r6 r2
    ∷ keeps (secret_job (3 ∷ 1 ∷ 1 ∷ 2 ∷ 3 ∷ 5 ∷ 1 ∷ 3 ∷ []) 2 (set (set spilled 2 highest) 3 18446744073709551600) 10)
    (entry highest 9 (1 ∷ 2 ∷ []) ∷ entry 18446744073709551600 6 (3 ∷ 5 ∷ []) ∷ [])
    ∷ holds (secret_job (3 ∷ 1 ∷ 1 ∷ 2 ∷ 3 ∷ 5 ∷ 1 ∷ 3 ∷ 2 ∷ 6 ∷ 1 ∷ 2 ∷ []) 3 (set (set spilled 2 highest) 3 18446744073709551600) 10) 6
    (tagged 9 (set_of (1 ∷ 2 ∷ [])))
    ∷ []

-- ---- the end area
-- store r1 r2; store r1 r3; store r2 r4, with two cells: at m − 1, at m and at 9
unfoldable pub at_the_edge : List ℕ
at_the_edge = secret_job (3 ∷ 1 ∷ 1 ∷ 2 ∷ 3 ∷ 1 ∷ 1 ∷ 3 ∷ 3 ∷ 2 ∷ 1 ∷ 4 ∷ []) 3 (0 ∷ 8 ∷ 1 ∷ 2 ∷ 9 ∷ zeros 13) 10

-- the words of the end area after it: registers, cells, and a table of two entries
unfoldable pub edge_end : List ℕ
edge_end = 0 ∷ 8 ∷ 1 ∷ 2 ∷ 9 ∷ zeros 12 ++ (8 ∷ 2 ∷ 2 ∷ 8 ∷ 9 ∷ 1 ∷ zeros 124)

unfoldable pub outside_areas : List Row
outside_areas =
    -- "the entry count, then each entry's address and value side by side, in order of first store, zeros after": 16 + m + 129 words, and the
    -- rest of the area stays
    leaves at_the_edge (lent (filled 7) (filled 149) (filled 4096)) (ran Finished 3 3 0 (2 ∷ 3 ∷ 4 ∷ []) (2 ∷ 3 ∷ 4 ∷ []) Plain)
    (lent (4 ∷ 1 ∷ 4 ∷ 2 ∷ 4 ∷ 9 ∷ filled 1) (edge_end ++ filled 2) (zeros 4096))
    ∷ leaves at_the_edge (lent (filled 7) (filled 147) (filled 4096)) (ran Finished 3 3 0 (2 ∷ 3 ∷ 4 ∷ []) (2 ∷ 3 ∷ 4 ∷ []) Plain)
    (lent (4 ∷ 1 ∷ 4 ∷ 2 ∷ 4 ∷ 9 ∷ filled 1) edge_end (zeros 4096))
    -- "the area test of 10 uses the new length": one word too few
    ∷ leaves at_the_edge (lent (filled 7) (filled 146) (filled 4096)) (run_refused refusals.Areas) (lent (filled 7) (filled 146) (filled 4096))
    -- a plain run likewise
    ∷ plain_leaves at_the_edge (lent (filled 7) (filled 148) (filled 4096)) (plain_ran Finished 3 3 (2 ∷ 3 ∷ 4 ∷ []))
    (lent (4 ∷ 1 ∷ 4 ∷ 2 ∷ 4 ∷ 9 ∷ filled 1) (edge_end ++ filled 1) (zeros 4096))
    ∷ plain_leaves at_the_edge (lent (filled 7) (filled 146) (filled 4096)) (plain_refused refusals.Areas)
    (lent (filled 7) (filled 146) (filled 4096))
    -- the 129 words are needed also where nothing is remembered; m 240: a run is lent 385 words, and then one fewer
    ∷ run (skips 1 240 10 0 100) 0 [] (ran Finished 0 1 0 [] [] Clean)
    ∷ leaves (skips 1 240 10 0 100) (lent [] (filled 384) (filled 4096)) (run_refused refusals.Areas) (lent [] (filled 384) (filled 4096))
    -- a run that stops on a wrong path shows the table as it is at that moment: spent after the store, before the rollback
    ∷ leaves (file first_stored 3 spilled (zeros 4) 10 2) (lent (filled 6) (filled 146) (filled 4096))
    (ran Spent 3 2 0 (0 ∷ 2 ∷ []) (0 ∷ []) Undecided) (lent (0 ∷ 0 ∷ 2 ∷ 1 ∷ 4 ∷ 5 ∷ []) (spilled ++ (1 ∷ 5 ∷ 9 ∷ zeros 126)) (zeros 4096))
    ∷ []

-- ---- 64 addresses, and a 65th
-- n words counted up from a
unfoldable pub counted_from : ℕ → ℕ → List ℕ
counted_from a zero = []
counted_from a (suc n) = a ∷ counted_from (suc a) n

-- r0 to r7 hold 100 to 107, r8 to r15 the multiples of 8 from 0 to 56; one cell
unfoldable pub summands : List ℕ
summands = counted_from 100 8 ++ (0 ∷ 8 ∷ 16 ∷ 24 ∷ 32 ∷ 40 ∷ 48 ∷ 56 ∷ 300 ∷ [])

-- n stores from number k on: number k is store ri (ri add rj) at 100 + k, with i = k modulo 8 and j = 8 + k / 8
unfoldable pub filling : ℕ → ℕ → List ℕ
filling k zero = []
filling k (suc n) = 3 ∷ (k % 8) ∷ 3 ∷ (k % 8) ∷ (8 + k / 8) ∷ 19 ∷ filling (suc k) n

-- their observations, their entries as the end area has them, and their lines
unfoldable pub filling_seen : ℕ → ℕ → List ℕ
filling_seen k zero = []
filling_seen k (suc n) = 4 ∷ (100 + k) ∷ filling_seen (suc k) n

unfoldable pub filling_shown : ℕ → ℕ → List ℕ
filling_shown k zero = []
filling_shown k (suc n) = (100 + k) ∷ (100 + k % 8) ∷ filling_shown (suc k) n

unfoldable pub filling_lines : ℕ → ℕ → List ℕ
filling_lines k zero = []
filling_lines k (suc n) = text "store 1" ++ ((48 + k / 10) ∷ (48 + k % 10) ∷ 10 ∷ filling_lines (suc k) n)

-- what the 64 stores rest on: every register
unfoldable pub registers : List ℕ
registers = counted_from 0 16

-- and the cell, location 16
unfoldable pub locations : List ℕ
locations = counted_from 0 17

-- 64 stores; load r1 r8; store r2 r1, whose address rests on the cell and is a 65th; with a budget
unfoldable pub overfilling : ℕ → List ℕ
overfilling b = file (filling 0 64 ++ (2 ∷ 1 ∷ 1 ∷ 8 ∷ 3 ∷ 2 ∷ 1 ∷ 1 ∷ [])) 66 summands (zeros 4) 10 b

unfoldable pub outside_full : List Row
outside_full =
    -- "for up to 64 addresses": with 64 entries a store to a remembered address and one to a cell are made, and a load at an unwritten
    -- address. After the 64 stores, store r15 (r7 add r15) at 163; store r15 r8 at 0; load r1 r15. The whole end area.
    ends (secret_job (filling 0 64 ++ (3 ∷ 15 ∷ 3 ∷ 7 ∷ 15 ∷ 19 ∷ 3 ∷ 15 ∷ 1 ∷ 8 ∷ 2 ∷ 1 ∷ 1 ∷ 15 ∷ [])) 67 summands 10)
    (lent (filled 134) (filled 147) (filled 4096)) (ran Finished 67 67 0 registers registers Plain)
    (set (set summands 1 0) 16 56 ++ (64 ∷ filling_shown 0 63 ++ (163 ∷ 56 ∷ filled 1)))
    -- "A run that would need a 65th address stops as "outside full", before that step": its observation has room. "That store's address
    -- set still joins D, and the plain set with nothing open."
    ∷ ends (overfilling 100) (lent (filled 132) (filled 146) (filled 4096)) (ran OutsideFull 65 65 0 locations locations Undecided)
    (set summands 1 300 ++ (64 ∷ filling_shown 0 64))
    -- of the stored register's set nothing joins: the 64 stores; load r1 r8; store r1 1, whose word rests on the cell and its address on nothing
    ∷ run (secret_job (filling 0 64 ++ (2 ∷ 1 ∷ 1 ∷ 8 ∷ 3 ∷ 1 ∷ 1 ∷ 16 ∷ 1 ∷ zeros 7)) 66 summands 10) 132 (filling_seen 0 64 ++ (3 ∷ 0 ∷ []))
    (ran OutsideFull 65 65 0 registers registers Undecided)
    -- the plain run likewise
    ∷ plain (overfilling 100) 132 (filling_seen 0 64 ++ (3 ∷ 0 ∷ [])) (plain_ran OutsideFull 65 65 locations)
    -- on a wrong path the set joins D alone: the 64 stores; load r1 r8; beqz r0 67; skip; store r2 r1
    ∷ run (secret_job (filling 0 64 ++ (2 ∷ 1 ∷ 1 ∷ 8 ∷ 5 ∷ 0 ∷ 67 ∷ 0 ∷ 0 ∷ 3 ∷ 2 ∷ 1 ∷ 1 ∷ [])) 68 summands 10) 136
    (filling_seen 0 64 ++ (3 ∷ 0 ∷ 0 ∷ 0 ∷ 2 ∷ 67 ∷ [])) (ran OutsideFull 67 66 0 locations registers Undecided)
    -- what was first stored on a wrong path no longer counts after the rollback: 63 stores; load r1 r8; beqz r0 66; the 64th; store r2 r1.
    -- On the wrong path the last store is at the 64th address, after the rollback at the 65th.
    ∷ run (secret_job (filling 0 63 ++ (2 ∷ 1 ∷ 1 ∷ 8 ∷ 5 ∷ 0 ∷ 66 ∷ 0 ∷ filling 63 1 ++ (3 ∷ 2 ∷ 1 ∷ 1 ∷ []))) 67 summands 10) 142
    (filling_seen 0 63 ++ (3 ∷ 0 ∷ 0 ∷ 0 ∷ 2 ∷ 66 ∷ 4 ∷ 300 ∷ 1 ∷ 0 ∷ 2 ∷ 65 ∷ 4 ∷ 163 ∷ [])) (ran OutsideFull 70 68 1 locations locations Undecided)
    -- "this is tried after "spent" and after "trace full"": with room for 65 observations the run stops as trace full, and the store's
    -- address set joins nothing; with 65 steps it is spent
    ∷ run (overfilling 100) 131 (filling_seen 0 64 ++ (3 ∷ 0 ∷ [])) (ran TraceFull 65 65 0 registers registers Undecided)
    ∷ run (overfilling 65) 132 (filling_seen 0 64 ++ (3 ∷ 0 ∷ [])) (ran Spent 65 65 0 registers registers Undecided)
    -- a pair with one run outside full is undecided, and the second run starts with nothing outside: 63 stores; load r1 r8; store r2 r1;
    -- the 64th. The first state has the 64th address in its cell, so that the run finishes.
    ∷ pair (secret_job (filling 0 63 ++ (2 ∷ 1 ∷ 1 ∷ 8 ∷ 3 ∷ 2 ∷ 1 ∷ 1 ∷ filling 63 1)) 66 (set summands 16 163) 10) (word_bytes summands) 132
    (filling_seen 0 63 ++ (3 ∷ 0 ∷ 4 ∷ 163 ∷ 4 ∷ 163 ∷ [])) (filling_seen 0 63 ++ (3 ∷ 0 ∷ 4 ∷ 300 ∷ []))
    (Ok (paired pairs.Undecided (counted Finished 66 66 0) (counted OutsideFull 65 65 0)))
    -- a test load whose own run is outside full: "its own stop and counts alone, its trace alone is written and no state"
    ∷ test_leaves (overfilling 100) 1 (test_load_lent (filled 132) (filled 132) (filled 4097) (filled 136)) (Ok (loads.Undecided (counted OutsideFull 65 65 0)))
    (test_load_lent (filling_seen 0 64 ++ (3 ∷ 0 ∷ filled 2)) (filled 132) (zeros 4096 ++ filled 1) (filled 136))
    -- the stop as it is printed
    ∷ prints (overfilling 100)
    (filling_lines 0 64
    ++ lines (
    "load 0" ∷ "stop outside full" ∷ "steps 65" ∷ "rollbacks 0" ∷ "depends r0 r1 r2 r3 r4 r5 r6 r7 r8 r9 r10 r11 r12 r13 r14 r15 m0"
    ∷ "plain r0 r1 r2 r3 r4 r5 r6 r7 r8 r9 r10 r11 r12 r13 r14 r15 m0" ∷ "verdict undecided"
    ∷ "first r0 0 store 0" ∷ "first r1 1 store 1" ∷ "first r2 2 store 2" ∷ "first r3 3 store 3" ∷ "first r4 4 store 4" ∷ "first r5 5 store 5"
    ∷ "first r6 6 store 6" ∷ "first r7 7 store 7" ∷ "first r8 0 store 0" ∷ "first r9 8 store 8" ∷ "first r10 16 store 16" ∷ "first r11 24 store 24"
    ∷ "first r12 32 store 32" ∷ "first r13 40 store 40" ∷ "first r14 48 store 48" ∷ "first r15 56 store 56" ∷ "first m0 65 store 65" ∷ []
    ))
    ∷ []
