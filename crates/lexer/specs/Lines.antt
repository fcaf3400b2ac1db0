-- The lines of a text, from a place on: the line at the place has the parts that stand from its first part on, and the lines after it
-- are those from the next place on, which is past the text's end exactly where the line is the last.
-- Assumes nothing.
use Rattle.std.specs.Prelude.{◌≡◌, refl, Bool, true, false, not, List, [], ◌∷◌, ℕ, suc, ◌+◌, ◌<◌, ◌≤◌, eqb, length, take, drop}
use Rattle.std.proofs.Common.{sym, ap, ◌∙◌, arith, eqb-true, length-drop, drop-drop}
use Rattle.rules.specs.Rules.Parts.{newline, space, in_name, into_first, lines_of, starts_name, byte_parts, parts}
use Rattle.lexer.specs.declared.Place.{Place}
use Rattle.lexer.specs.Places.{is_space, in_line, blanks, line_length, blanks_passed, line_passed, line_from, line_at}
use Rattle.rules.proofs.Theorems.TextParts.{parts-byte, starts_byte}
use Rattle.lexer.specs.Fronts.{front_met, front_not_met, front-nil, front-within, parts-nil, parts-newline, parts-blanks}

-- ---- a byte before other lines
newline-lines : (bs : List ℕ) → lines_of (newline ∷ bs) ≡ [] ∷ lines_of bs
unfolding lines_of
newline-lines bs = refl

byte-lines : (b : ℕ) (bs : List ℕ) → eqb b newline ≡ false → lines_of (b ∷ bs) ≡ into_first b (lines_of bs)
unfolding lines_of
byte-lines b bs h = rw h

nil-lines : lines_of [] ≡ [] ∷ []
unfolding lines_of
nil-lines = refl

-- ---- the lines of a text
abbrev line : List ℕ → List ℕ
line bs = take (line_length bs) bs

last : (bs : List ℕ) → length bs ≤ line_length bs → lines_of bs ≡ line bs ∷ []
last [] h = rw (front-nil in_line) nil-lines
last (b ∷ bs) h = by (eqb b newline) refl (λ k. last bs k)
  where
    by : (t : Bool) → eqb b newline ≡ t → (length bs ≤ line_length bs → lines_of bs ≡ line bs ∷ []) → lines_of (b ∷ bs) ≡ line (b ∷ bs) ∷ []
    by true e f = absurd (let n = front_not_met in_line b bs (ap not e) in omega arith)
    by false e f =
        let n = front_met in_line b bs (ap not e) in rw n (byte-lines b bs e ∙ ap (into_first b) (f (omega arith)))

more : (bs : List ℕ) → line_length bs < length bs → lines_of bs ≡ line bs ∷ lines_of (drop (suc (line_length bs)) bs)
more [] h = absurd (let n = front-nil in_line in omega arith)
more (b ∷ bs) h = by (eqb b newline) refl (λ k. more bs k)
  where
    by : (t : Bool) → eqb b newline ≡ t → (line_length bs < length bs → lines_of bs ≡ line bs ∷ lines_of (drop (suc (line_length bs)) bs))
        → lines_of (b ∷ bs) ≡ line (b ∷ bs) ∷ lines_of (drop (suc (line_length (b ∷ bs))) (b ∷ bs))
    by true e f = rw (front_not_met in_line b bs (ap not e)) (ap (λ (x : ℕ). lines_of (x ∷ bs)) (eqb-true b newline e) ∙ newline-lines bs)
    by false e f =
        let n = front_met in_line b bs (ap not e) in rw n (byte-lines b bs e ∙ ap (into_first b) (f (omega arith)))

-- ---- the parts of a line are those that stand at its front in the text
newline_starts : (bs : List ℕ) → starts_name (newline ∷ bs) ≡ starts_name []
unfolding starts_name in_name
newline_starts bs = refl

line_starts : (bs : List ℕ) → starts_name (line bs) ≡ starts_name bs
line_starts [] = rw (front-nil in_line)
line_starts (b ∷ bs) = by (eqb b newline) refl
  where
    by : (t : Bool) → eqb b newline ≡ t → starts_name (line (b ∷ bs)) ≡ starts_name (b ∷ bs)
    by true e = rw (front_not_met in_line b bs (ap not e)) (sym (newline_starts bs) ∙ ap (λ (x : ℕ). starts_name (x ∷ bs)) (sym (eqb-true b newline e)))
    by false e = rw (front_met in_line b bs (ap not e)) (starts_byte b (line bs) ∙ sym (starts_byte b bs))

same_parts : (bs : List ℕ) → parts (line bs) ≡ parts bs
same_parts [] = rw (front-nil in_line)
same_parts (b ∷ bs) = by (eqb b newline) refl (same_parts bs)
  where
    by : (t : Bool) → eqb b newline ≡ t → parts (line bs) ≡ parts bs → parts (line (b ∷ bs)) ≡ parts (b ∷ bs)
    by true e i = rw (front_not_met in_line b bs (ap not e)) (parts-nil ∙ sym (parts-newline bs) ∙ ap (λ (x : ℕ). parts (x ∷ bs)) (sym (eqb-true b newline e)))
    by false e i =
        rw (front_met in_line b bs (ap not e))
        (parts-byte b (line bs) ∙ ap (λ (m : Bool). byte_parts b m (parts (line bs))) (line_starts bs)
        ∙ ap (byte_parts b (starts_name bs)) i ∙ sym (parts-byte b bs))

-- ---- spaces stand within their line
space_in_line : (b : ℕ) → is_space b ≡ true → in_line b ≡ true
space_in_line b e = rw (eqb-true b space e)

past-blanks : (bs : List ℕ) → blanks bs + line_length (drop (blanks bs) bs) ≡ line_length bs
past-blanks [] = let n = front-nil is_space in rw n (omega arith)
past-blanks (b ∷ bs) = by (is_space b) refl (past-blanks bs)
  where
    by : (t : Bool) → is_space b ≡ t → blanks bs + line_length (drop (blanks bs) bs) ≡ line_length bs
        → blanks (b ∷ bs) + line_length (drop (blanks (b ∷ bs)) (b ∷ bs)) ≡ line_length (b ∷ bs)
    by true e i = rw (front_met is_space b bs e, front_met in_line b bs (space_in_line b e)) (omega (arith, i))
    by false e i = rw (front_not_met is_space b bs e) (omega arith)

-- ---- from a place on
module _ (text : List ℕ) (p : Place) where
  abbrev rest : List ℕ
  rest = drop p.at text

  -- the spaces before a line's first part do not change where the line ends
  pub line-past_blanks : line_passed text (blanks_passed text p) ≡ line_passed text p
  line-past_blanks =
      let e : line_length (drop (p.at + blanks rest) text) ≡ line_length (drop (blanks rest) rest) =
      ap line_length (sym (drop-drop (blanks rest) p.at text)) in
      let f = past-blanks rest in
      let g : p.at + blanks rest + line_length (drop (p.at + blanks rest) text) + 1 ≡ p.at + line_length rest + 1 = omega arith in
      λ i. record { at = g i; line = p.line + 1 }

  pub start-within : p.at ≤ length text → (line_at text p).start ≤ length text
  start-within h = let w = front-within is_space rest in let l = length-drop p.at text in omega arith

  pub next-within : p.at ≤ length text → (line_at text p).next.at ≤ length text + 1
  next-within h = let w = front-within in_line rest in let l = length-drop p.at text in omega arith

  pub line-parts : parts (line_from text p.at) ≡ parts (drop (line_at text p).start text)
  line-parts = same_parts rest ∙ parts-blanks rest ∙ ap parts (drop-drop (blanks rest) p.at text)

  -- the last line
  pub last_line : length text < (line_at text p).next.at → lines_of rest ≡ line_from text p.at ∷ []
  last_line h = last rest (let l = length-drop p.at text in rw l (omega arith))

  -- a line that a newline ends
  pub line_before : (line_at text p).next.at ≤ length text
      → lines_of rest ≡ line_from text p.at ∷ lines_of (drop (line_at text p).next.at text)
  line_before h =
      let l = length-drop p.at text in
      let e : p.at + suc (line_length rest) ≡ p.at + line_length rest + 1 = omega arith in
      let d : drop (suc (line_length rest)) rest ≡ drop (line_at text p).next.at text =
      drop-drop (suc (line_length rest)) p.at text ∙ ap (λ (i : ℕ). drop i text) e in
      more rest (rw l (omega arith)) ∙ ap (λ (bs : List ℕ). line_from text p.at ∷ lines_of bs) d
