-- The lines of a text and the parts of a line: words and numbers, brackets, and bytes that no line of a routine has.
-- Assumes nothing.
use Rattle.std.specs.Prelude.{Bool, true, false, ◌&&◌, ◌||◌, cond, List, [], ◌∷◌, ℕ, ◌-◌, eqb, leb, take, drop}

-- ---- the bytes that have a meaning of their own
abbrev pub newline : ℕ
newline = 10

abbrev pub space : ℕ
space = 32

-- "# starts a remark"
abbrev pub remark : ℕ
remark = 35

abbrev pub opening_bracket : ℕ
opening_bracket = 40

abbrev pub closing_bracket : ℕ
closing_bracket = 41

abbrev pub is_letter : ℕ → Bool
is_letter b = leb 97 b && leb b 122

abbrev pub is_digit : ℕ → Bool
is_digit b = leb 48 b && leb b 57

-- a byte of a word or a number
unfoldable pub in_name : ℕ → Bool
in_name b = is_letter b || is_digit b

-- ---- lines: "A line ends at a newline or the text's end."
-- a byte before the first line
abbrev pub into_first : ℕ → List (List ℕ) → List (List ℕ)
into_first b [] = (b ∷ []) ∷ []
into_first b (l ∷ ls) = (b ∷ l) ∷ ls

unfoldable pub lines_of : List ℕ → List (List ℕ)
lines_of [] = [] ∷ []
lines_of (b ∷ bs) = cond (eqb b newline) ([] ∷ lines_of bs) (into_first b (lines_of bs))

-- ---- parts: "Spaces must stand between two words or numbers, and may stand anywhere but inside one"
-- A name is a word or a number: as many letters and digits as stand side by side.
pub data Part : Type 0 where
  name : List ℕ → Part
  opening closing : Part
  other : ℕ → Part

unfoldable pub starts_name : List ℕ → Bool
starts_name [] = false
starts_name (b ∷ bs) = in_name b

-- a letter or digit before the parts of what follows it, of which the first is a name that goes on from it
abbrev pub extended : ℕ → List Part → List Part
extended b [] = other b ∷ []
extended b (name w ∷ ps) = name (b ∷ w) ∷ ps
extended b (opening ∷ ps) = other b ∷ opening ∷ ps
extended b (closing ∷ ps) = other b ∷ closing ∷ ps
extended b (other c ∷ ps) = other b ∷ other c ∷ ps

-- a letter or digit: the name goes on, or it ends here
abbrev pub named : Bool → ℕ → List Part → List Part
named true b ps = extended b ps
named false b ps = name (b ∷ []) ∷ ps

-- A byte before the parts of what follows it; `more` says that a letter or digit follows. A remark or a newline ends the line.
unfoldable pub byte_parts : ℕ → Bool → List Part → List Part
byte_parts b more ps =
    cond (in_name b) (named more b ps)
    (cond (eqb b newline || eqb b remark) []
    (cond (eqb b space) ps (cond (eqb b opening_bracket) (opening ∷ ps) (cond (eqb b closing_bracket) (closing ∷ ps) (other b ∷ ps)))))

-- the parts of the line at the front of a text
unfoldable pub parts : List ℕ → List Part
parts [] = []
parts (b ∷ bs) = byte_parts b (starts_name bs) (parts bs)

-- the bytes of a text from one offset to another
abbrev pub segment : List ℕ → ℕ → ℕ → List ℕ
segment t from to = take (to - from) (drop from t)
