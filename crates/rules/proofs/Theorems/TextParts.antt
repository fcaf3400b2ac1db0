-- The parts of a text: a word or number before what is none, a space, and the brackets; and the line at its front.
-- Assumes nothing.
use Rattle.std.specs.Prelude.{◌≡◌, refl, Bool, true, false, cond, List, [], ◌∷◌, ◌++◌, ℕ, eqb}
use Rattle.std.proofs.Common.{sym, ap, ◌∙◌, true≢false, ne_eqb}
use Rattle.rules.specs.Rules.Operators.{Op1, neg, inv, Op2, add, sub, mul, and, or, xor, shl, shr, eq, ult}
use Rattle.rules.specs.Rules.Answers.{text}
use Rattle.rules.specs.Rules.Parts.{newline, space, opening_bracket, closing_bracket, in_name, into_first, lines_of, Part, name, opening, closing}
use Rattle.rules.specs.Rules.Parts.{starts_name, extended, named, byte_parts, parts}
use Rattle.rules.specs.Rules.TextReading.{sign_name, operator_name}

-- ---- words and numbers
-- every byte is a letter or a digit
pub data Named : List ℕ → Type 0 where
  nil : Named []
  more : {b : ℕ} {w : List ℕ} → in_name b ≡ true → Named w → Named (b ∷ w)

-- at least one byte, and each a letter or a digit
pub data Word : List ℕ → Type 0 where
  word : (b : ℕ) (w : List ℕ) → Named (b ∷ w) → Word (b ∷ w)

pub parts-byte : (b : ℕ) (bs : List ℕ) → parts (b ∷ bs) ≡ byte_parts b (starts_name bs) (parts bs)
unfolding parts
parts-byte b bs = refl

pub named-byte : (b : ℕ) (m : Bool) (ps : List Part) → in_name b ≡ true → byte_parts b m ps ≡ named m b ps
unfolding byte_parts
named-byte b m ps h = rw h

pub starts_byte : (b : ℕ) (bs : List ℕ) → starts_name (b ∷ bs) ≡ in_name b
unfolding starts_name
starts_byte b bs = refl

name-parts : (b : ℕ) (w rest : List ℕ) → Named (b ∷ w) → starts_name rest ≡ false → parts (b ∷ w ++ rest) ≡ name (b ∷ w) ∷ parts rest
name-parts b [] rest (more h nil) s = parts-byte b rest ∙ named-byte b _ _ h ∙ ap (λ (m : Bool). named m b (parts rest)) s
name-parts b (c ∷ w) rest (more h (more k r)) s =
    parts-byte b (c ∷ w ++ rest)
    ∙ named-byte b _ _ h
    ∙ ap (λ (m : Bool). named m b (parts (c ∷ w ++ rest))) (starts_byte c (w ++ rest) ∙ k)
    ∙ ap (extended b) (name-parts c w rest (more k r) s)

pub word-parts : {w : List ℕ} (rest : List ℕ) → Word w → starts_name rest ≡ false → parts (w ++ rest) ≡ name w ∷ parts rest
word-parts rest (word b w n) s = name-parts b w rest n s

-- ---- the other bytes of a printed line
pub space-parts : (bs : List ℕ) → parts (space ∷ bs) ≡ parts bs
unfolding parts byte_parts in_name
space-parts bs = refl

pub opening-parts : (bs : List ℕ) → parts (opening_bracket ∷ bs) ≡ opening ∷ parts bs
unfolding parts byte_parts in_name
opening-parts bs = refl

pub closing_parts : (bs : List ℕ) → parts (closing_bracket ∷ bs) ≡ closing ∷ parts bs
unfolding parts byte_parts in_name
closing_parts bs = refl

-- none of these bytes goes on with a name
pub space-ends : (bs : List ℕ) → starts_name (space ∷ bs) ≡ false
unfolding starts_name in_name
space-ends bs = refl

pub closing_ends : (bs : List ℕ) → starts_name (closing_bracket ∷ bs) ≡ false
unfolding starts_name in_name
closing_ends bs = refl

pub nothing_ends : starts_name [] ≡ false
unfolding starts_name
nothing_ends = refl

-- ---- the names of operators
pub sign_word : (o : Op1) → Word (sign_name o)
unfolding text in_name
sign_word neg = word _ _ (more refl (more refl (more refl nil)))
sign_word inv = word _ _ (more refl (more refl (more refl nil)))

pub operator-word : (o : Op2) → Word (operator_name o)
unfolding text in_name
operator-word add = word _ _ (more refl (more refl (more refl nil)))
operator-word sub = word _ _ (more refl (more refl (more refl nil)))
operator-word mul = word _ _ (more refl (more refl (more refl nil)))
operator-word and = word _ _ (more refl (more refl (more refl nil)))
operator-word or = word _ _ (more refl (more refl nil))
operator-word xor = word _ _ (more refl (more refl (more refl nil)))
operator-word shl = word _ _ (more refl (more refl (more refl nil)))
operator-word shr = word _ _ (more refl (more refl (more refl nil)))
operator-word eq = word _ _ (more refl (more refl nil))
operator-word ult = word _ _ (more refl (more refl (more refl nil)))

-- ---- lines
-- no byte is a newline
pub data Unbroken : List ℕ → Type 0 where
  nil : Unbroken []
  more : {b : ℕ} {w : List ℕ} → eqb b newline ≡ false → Unbroken w → Unbroken (b ∷ w)

pub unbroken-append : {v w : List ℕ} → Unbroken v → Unbroken w → Unbroken (v ++ w)
unbroken-append nil k = k
unbroken-append (more e h) k = more e (unbroken-append h k)

name-unbroken : (b : ℕ) → in_name b ≡ true → eqb b newline ≡ false
unfolding in_name
name-unbroken b e = ne_eqb b newline (λ q. true≢false (sym (rw q at e)))

named-unbroken : {w : List ℕ} → Named w → Unbroken w
named-unbroken nil = nil
named-unbroken (more {b = b} e h) = more (name-unbroken b e) (named-unbroken h)

pub word-unbroken : {w : List ℕ} → Word w → Unbroken w
word-unbroken (word b w n) = named-unbroken n

-- "A line ends at a newline"
pub line_first : {l : List ℕ} (rest : List ℕ) → Unbroken l → lines_of (l ++ (newline ∷ rest)) ≡ l ∷ lines_of rest
unfolding lines_of
line_first rest nil = refl
line_first rest (more {b = b} {w = w} e h) =
    ap (λ (t : Bool). cond t ([] ∷ lines_of (w ++ (newline ∷ rest))) (into_first b (lines_of (w ++ (newline ∷ rest))))) e
    ∙ ap (into_first b) (line_first rest h)
