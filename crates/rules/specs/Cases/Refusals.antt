-- Each refusal 1 to 8 at its boundary, on real bytes: a file with the number that reading it gives, 0 if it is accepted.
-- Tables.antt proves them.
-- Assumes nothing.
use Rattle.std.specs.Prelude.{List, [], ◌∷◌, ◌++◌, ℕ, ◌+◌, ◌*◌, replicate, set}
use Rattle.rules.specs.Rules.Answers.{refusal_number}
use Rattle.rules.specs.Rules.JobFile.{Parsed, accepted, rejected, parse}
use Rattle.rules.specs.Cases.Files.{zeros, trailer_bytes, file}

pub record Reading : Type 0 where
  pub bytes : List ℕ
  pub number : ℕ

unfoldable pub reads : List ℕ → ℕ → Reading
reads bytes number = record { bytes = bytes; number = number }

unfoldable pub number_of : Parsed → ℕ
number_of (accepted j) = 0
number_of (rejected r) = refusal_number r

unfoldable pub read_numbers : List Reading → List ℕ
read_numbers [] = []
read_numbers (r ∷ rs) = number_of (parse r.bytes) ∷ read_numbers rs

unfoldable pub wanted_numbers : List Reading → List ℕ
wanted_numbers [] = []
wanted_numbers (r ∷ rs) = r.number ∷ wanted_numbers rs

-- a program of n instructions with m cells, all zero
unfoldable pub program : List ℕ → ℕ → ℕ → List ℕ
program prog n m = file prog n (zeros (16 + m)) (zeros 4) 10 100

-- one skip, with the trailer's numbers n, m, w, z and b; the state has m words
unfoldable pub skips : ℕ → ℕ → ℕ → ℕ → ℕ → List ℕ
skips n m w z b = 0 ∷ zeros (128 + 8 * m) ++ zeros 32 ++ trailer_bytes 1 (129 + 8 * m) n m w z b

-- one skip, with the offsets S and Q
unfoldable pub offsets_at : ℕ → ℕ → List ℕ
offsets_at s q = 0 ∷ zeros 128 ++ zeros 32 ++ trailer_bytes s q 1 0 10 0 100

-- one skip with four cells and one public bit, in byte j of the list
unfoldable pub list_bit : ℕ → ℕ → List ℕ
list_bit j v = 0 ∷ zeros 160 ++ set (zeros 32) j v ++ trailer_bytes 1 161 1 4 10 0 100

unfoldable pub refusals : List Reading
refusals =
    -- 1: length under 16 or over 16,384
    reads [] 1
    ∷ reads (zeros 15) 1
    ∷ reads (zeros 16) 2
    ∷ reads (zeros 16384) 2
    ∷ reads (zeros 16385) 1
    -- 2: the trailer's limits
    ∷ reads (skips 1 0 10 0 100) 0
    ∷ reads (skips 0 0 10 0 100) 2
    ∷ reads (skips 513 0 10 0 100) 2
    ∷ reads (file (zeros 512) 512 (zeros 16) (zeros 4) 200 1000000) 0
    ∷ reads (skips 1 240 10 0 100) 0
    ∷ reads (skips 1 241 10 0 100) 2
    ∷ reads (skips 1 0 200 0 100) 0
    ∷ reads (skips 1 0 201 0 100) 2
    ∷ reads (skips 1 0 10 1 100) 2
    ∷ reads (skips 1 0 10 0 1000000) 0
    ∷ reads (skips 1 0 10 0 1000001) 2
    -- and their high bytes
    ∷ reads (skips 1 256 10 0 100) 2
    ∷ reads (skips 1 0 256 0 100) 2
    ∷ reads (skips 1 0 10 256 100) 2
    ∷ reads (skips 1 0 10 0 16777316) 2
    -- 3: S > Q; Q − S not 128 + 8m; Q + 48 not the length, also where it would wrap in 16 bits
    ∷ reads (offsets_at 1 129) 0
    ∷ reads (offsets_at 130 129) 3
    ∷ reads (offsets_at 2 129) 3
    ∷ reads (offsets_at 2 130) 3
    ∷ reads (offsets_at 0 128) 3
    ∷ reads (offsets_at 0 129) 3
    ∷ reads (zeros 16 ++ trailer_bytes 65392 65520 1 0 10 0 100) 3
    -- 4: unknown kind or token, register over 15, token count, a kind byte or field past S
    ∷ reads (program (8 ∷ []) 1 0) 4
    ∷ reads (program (4 ∷ 1 ∷ 15 ∷ []) 1 0) 0
    ∷ reads (program (4 ∷ 2 ∷ 0 ∷ 29 ∷ []) 1 0) 4
    ∷ reads (program (1 ∷ 15 ∷ 1 ∷ 0 ∷ []) 1 0) 0
    ∷ reads (program (1 ∷ 16 ∷ 1 ∷ 0 ∷ []) 1 0) 4
    ∷ reads (program (4 ∷ 0 ∷ []) 1 0) 4
    ∷ reads (program (4 ∷ 16 ∷ 0 ∷ replicate 15 17) 1 0) 0
    ∷ reads (program (4 ∷ 17 ∷ 0 ∷ replicate 16 17) 1 0) 4
    ∷ reads (program [] 1 0) 4
    ∷ reads (program (0 ∷ []) 2 0) 4
    ∷ reads (program (4 ∷ 1 ∷ 16 ∷ zeros 7) 1 0) 4
    ∷ reads (program (4 ∷ 1 ∷ 16 ∷ zeros 8) 1 0) 0
    ∷ reads (program (5 ∷ 0 ∷ 0 ∷ []) 1 0) 4
    -- 5: an operand lacks, or two values are left; eight values may be held
    ∷ reads (program (4 ∷ 1 ∷ 17 ∷ []) 1 0) 5
    ∷ reads (program (4 ∷ 2 ∷ 0 ∷ 19 ∷ []) 1 0) 5
    ∷ reads (program (4 ∷ 2 ∷ 0 ∷ 0 ∷ []) 1 0) 5
    ∷ reads (program (4 ∷ 15 ∷ zeros 8 ++ replicate 7 19) 1 0) 0
    ∷ reads (program (4 ∷ 16 ∷ zeros 9 ++ replicate 7 19) 1 0) 5
    ∷ reads (program (1 ∷ 0 ∷ 1 ∷ 17 ∷ []) 1 0) 5
    ∷ reads (program (2 ∷ 0 ∷ 1 ∷ 17 ∷ []) 1 0) 5
    ∷ reads (program (3 ∷ 0 ∷ 1 ∷ 17 ∷ []) 1 0) 5
    -- 4 on the whole instruction before 5; 5 and 6 of an instruction before 4 of the next
    ∷ reads (program (6 ∷ 0 ∷ 1 ∷ 17 ∷ 1 ∷ 29 ∷ []) 1 0) 4
    ∷ reads (program (6 ∷ 0 ∷ 1 ∷ 17 ∷ 1 ∷ 0 ∷ []) 1 0) 5
    ∷ reads (program (6 ∷ 0 ∷ 1 ∷ 0 ∷ 1 ∷ 17 ∷ []) 1 0) 5
    ∷ reads (program (4 ∷ 1 ∷ 17 ∷ 8 ∷ []) 2 0) 5
    ∷ reads (program (5 ∷ 0 ∷ 1 ∷ 0 ∷ 8 ∷ []) 2 0) 6
    -- 6: a label over n, or the next one; its own label, and n before the last, are allowed
    ∷ reads (program (5 ∷ 0 ∷ 2 ∷ 0 ∷ 0 ∷ []) 2 0) 0
    ∷ reads (program (5 ∷ 0 ∷ 3 ∷ 0 ∷ 0 ∷ []) 2 0) 6
    ∷ reads (program (5 ∷ 0 ∷ 1 ∷ 0 ∷ 0 ∷ []) 2 0) 6
    ∷ reads (program (5 ∷ 0 ∷ 0 ∷ 0 ∷ 0 ∷ []) 2 0) 0
    ∷ reads (program (5 ∷ 0 ∷ 1 ∷ 0 ∷ []) 1 0) 6
    ∷ reads (program (5 ∷ 0 ∷ 0 ∷ 1 ∷ 0 ∷ []) 2 0) 6
    -- 7: bytes left before S
    ∷ reads (program (0 ∷ 0 ∷ []) 1 0) 7
    -- 4 and 7 before 8
    ∷ reads (8 ∷ zeros 128 ++ set (zeros 32) 31 128 ++ trailer_bytes 1 129 1 0 10 0 100) 4
    ∷ reads (0 ∷ 0 ∷ zeros 128 ++ set (zeros 32) 31 128 ++ trailer_bytes 2 130 1 0 10 0 100) 7
    -- 8: a public bit at 16 + m or above
    ∷ reads (list_bit 2 8) 0
    ∷ reads (list_bit 2 16) 8
    ∷ reads (list_bit 31 128) 8
    ∷ reads (0 ∷ zeros 2048 ++ set (zeros 32) 31 128 ++ trailer_bytes 1 2049 1 240 10 0 100) 0
    ∷ []
