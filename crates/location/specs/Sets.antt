-- Sets of numbers as lists of 64-bit words, any number of words; and the location set, which has four.
-- Assumes nothing.
use Rattle.std.specs.Prelude.{Bool, true, ◌&&◌, List, [], ◌∷◌, ℕ, ◌+◌, ◌/◌, ◌%◌, ◌^◌, eqb, get_or, set, replicate}
use Rattle.std.specs.Int.Bits.{bit_or}
use Rattle.location.specs.declared.LocationSet.{LocationSet}

-- "Registers r0 to r15"; "register r is location r, cell a is location 16 + a"
abbrev pub registers : ℕ
registers = 16

abbrev pub register_location : ℕ → ℕ
register_location r = r

abbrev pub cell_location : ℕ → ℕ
cell_location a = registers + a

-- ---- any number of words: number 64 i + k is in the set where bit k of word i is 1
unfoldable pub bit : ℕ → ℕ → Bool
bit w k = eqb (w / 2 ^ k % 2) 1

unfoldable pub has : List ℕ → ℕ → Bool
has s l = bit (get_or s (l / 64) 0) (l % 64)

-- the bits of l's word from l on: its lowest bit is l's
unfoldable pub bits_from : List ℕ → ℕ → ℕ
bits_from s l = get_or s (l / 64) 0 / 2 ^ (l % 64)

unfoldable pub none : ℕ → List ℕ
none n = replicate n 0

unfoldable pub only : ℕ → ℕ → List ℕ
only n l = set (none n) (l / 64) (2 ^ (l % 64))

unfoldable pub either : List ℕ → List ℕ → List ℕ
either [] t = t
either (x ∷ s) [] = x ∷ s
either (x ∷ s) (y ∷ t) = bit_or x y ∷ either s t

-- every number of the first set is in the second
unfoldable pub inside : List ℕ → List ℕ → Bool
inside [] t = true
inside (x ∷ s) [] = eqb x 0 && inside s []
inside (x ∷ s) (y ∷ t) = eqb (bit_or x y) y && inside s t

-- ---- the location set
-- "The empty set, the set of one location and the limit of 256 belong to the location set itself."
abbrev pub limit : ℕ
limit = 256

unfoldable pub empty : LocationSet
empty = record { words = none 4 }

unfoldable pub single : ℕ → LocationSet
single l = record { words = only 4 l }

unfoldable pub union : LocationSet → LocationSet → LocationSet
union s t = record { words = either s.words t.words }

unfoldable pub subset : LocationSet → LocationSet → Bool
subset s t = inside s.words t.words

unfoldable pub member : LocationSet → ℕ → Bool
member s l = has s.words l

unfoldable pub rest : LocationSet → ℕ → ℕ
rest s l = bits_from s.words l
