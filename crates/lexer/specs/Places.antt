-- What stands at an offset of a text: how many bytes of one kind, the first part from there on, and the places that reading goes on to.
-- Assumes nothing.
use Rattle.std.specs.Prelude.{◌≡◌, Bool, not, List, [], ◌∷◌, ℕ, ◌+◌, ◌^◌, ◌<◌, ◌≤◌, eqb, length, take, drop}
use Rattle.std.specs.List.{prefix_len}
use Rattle.std.proofs.Common.{subst}
use Rattle.rules.specs.Rules.Parts as rules
use Rattle.rules.specs.Rules.Parts.{newline, space, in_name, parts, segment}
use Rattle.lexer.specs.declared.Place.{Place}
use Rattle.lexer.specs.declared.LineAt.{LineAt}
use Rattle.lexer.specs.declared.Part.{Part}
use Rattle.lexer.specs.declared.Part.TheVariants.{End, Name, Opening, Closing, Other}

-- how many bytes at the front meet a test, up to the first that does not
unfoldable pub front_length : (ℕ → Bool) → List ℕ → ℕ
front_length test bs = prefix_len test bs

-- the offset after the bytes that go on from an offset, where the test of the code says what a test of the rules says
abbrev pub SpanEnd : (ℕ → Bool → Type 0) → List ℕ → ℕ → ℕ → Type 0
SpanEnd gives text at end =
    (test : ℕ → Bool) → ((b : ℕ) (met : Bool) → gives b met → met ≡ test b) → end ≡ at + front_length test (drop at text)

abbrev pub is_space : ℕ → Bool
is_space b = eqb b space

abbrev pub in_line : ℕ → Bool
in_line b = not (eqb b newline)

-- how many spaces, letters and digits, and bytes before the first newline stand at the front
abbrev pub blanks : List ℕ → ℕ
blanks bs = front_length is_space bs

abbrev pub name_length : List ℕ → ℕ
name_length bs = front_length in_name bs

abbrev pub line_length : List ℕ → ℕ
line_length bs = front_length in_line bs

-- a byte that no line of a routine has stands first
pub record OtherFirst (ps : List rules.Part) : Type 0 where
  pub byte : ℕ
  pub later : List rules.Part
  pub found : ps ≡ rules.other byte ∷ later

-- the offset after the spaces that stand at an offset
abbrev pub after_blanks : List ℕ → ℕ → ℕ
after_blanks text at = at + blanks (drop at text)

-- The part that the code found is the first from the offset on; it stands after the spaces, and the parts after it are those from the offset
-- that comes with it.
abbrev pub PartTold : List ℕ → ℕ → Part → Type 0
PartTold text at End = parts (drop at text) ≡ []
PartTold text at (Name s e) =
    (at ≤ s) × (s < e) × (e ≤ length text) × (parts (drop at text) ≡ rules.name (segment text s e) ∷ parts (drop e text))
    × (s ≡ after_blanks text at) × (e ≡ s + name_length (drop s text))
PartTold text at (Opening q) =
    (at < q) × (q ≤ length text) × (parts (drop at text) ≡ rules.opening ∷ parts (drop q text)) × (q ≡ after_blanks text at + 1)
PartTold text at (Closing q) =
    (at < q) × (q ≤ length text) × (parts (drop at text) ≡ rules.closing ∷ parts (drop q text)) × (q ≡ after_blanks text at + 1)
PartTold text at Other = OtherFirst (parts (drop at text))

-- what is told of a part, by its case
pub told_of : (text : List ℕ) (at : ℕ) {r r' : Part} → r ≡ r' → PartTold text at r → PartTold text at r'
told_of text at e h = subst (PartTold text at) e h

-- ---- places
abbrev pub blanks_passed : List ℕ → Place → Place
blanks_passed text p = record { at = after_blanks text p.at; line = p.line }

-- the place is within the text, and the number of the next line is one of 64 bits
abbrev pub Passable : List ℕ → Place → Type 0
Passable text p = (p.at ≤ length text) × (p.line + 1 < 2 ^ 64)

-- past the newline that ends the line; after the last line, one past the text's end
abbrev pub line_passed : List ℕ → Place → Place
line_passed text p = record { at = p.at + line_length (drop p.at text) + 1; line = p.line + 1 }

-- the line that goes on from an offset, without its newline
abbrev pub line_from : List ℕ → ℕ → List ℕ
line_from text at = take (line_length (drop at text)) (drop at text)

abbrev pub line_at : List ℕ → Place → LineAt
line_at text p = record { start = (blanks_passed text p).at; next = line_passed text p }
