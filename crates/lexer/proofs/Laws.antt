-- The part that stands at an offset, by the byte after the spaces: a letter or digit, a byte that ends the line, a bracket, another.
-- Assumes nothing.
use mathlib.Core.Path.{◌≡◌, refl, sym, ap, ◌∙◌}
use mathlib.Core.Bool.{Bool, true, false, true≢false}
use mathlib.Core.List.{List, [], ◌∷◌}
use Prim.{⊥}
use Prim.Native.Nat.{ℕ, suc, ◌+◌, ◌-◌, ◌<◌, ◌≤◌}
use native.Mathlib.Numerals.{add-one}
use native.Mathlib.Omega.{arith}
use borrow.Author.Tests.{eq-eqb, ne_eqb}
use lib.ListN.{length, get_or, take, drop, length-drop, drop_of_length-le}
use lib.Seq.{drop-cons, get_or-drop, drop-drop}
use Rattle.rules.specs.Rules.Parts.{in_name, Part, name, other, starts_name, extended, named, byte_parts, parts}
use Rattle.lexer.specs.Places.{is_space, blanks, name_length, OtherFirst, PartTold}
use Rattle.lexer.specs.Fronts.{front_met, front_not_met, front-nil, front-within, front_ends}
use Rattle.rules.proofs.Theorems.TextParts.{parts-byte, named-byte, starts_byte, nothing_ends, opening-parts, closing_parts}
use Rattle.lexer.specs.Fronts.{parts-nil, parts-newline, parts-blanks}
use Rattle.lexer.specs.declared.Part.TheVariants.{Name, Opening, Closing}

-- ---- a name
-- nothing of a name stands where none starts
none_starts : (bs : List ℕ) → starts_name bs ≡ false → name_length bs ≡ 0
none_starts [] h = front-nil in_name
none_starts (b ∷ bs) h = front_not_met in_name b bs (sym (starts_byte b bs) ∙ h)

abbrev name_first : List ℕ → List Part
name_first bs = name (take (name_length bs) bs) ∷ parts (drop (name_length bs) bs)

-- a letter or digit starts a name, which goes on as far as letters and digits do
name-first : (b : ℕ) (bs : List ℕ) → in_name b ≡ true → parts (b ∷ bs) ≡ name_first (b ∷ bs)
name-first b [] h =
    rw (front_met in_name b [] h, front-nil in_name)
    (parts-byte b [] ∙ named-byte b (starts_name []) (parts []) h ∙ ap (λ (m : Bool). named m b (parts [])) nothing_ends)
name-first b (d ∷ ds) h = by (in_name d) refl (λ k. name-first d ds k)
  where
    by : (t : Bool) → in_name d ≡ t → (in_name d ≡ true → parts (d ∷ ds) ≡ name_first (d ∷ ds)) → parts (b ∷ d ∷ ds) ≡ name_first (b ∷ d ∷ ds)
    by true k f =
        rw (front_met in_name b (d ∷ ds) h)
        (parts-byte b (d ∷ ds) ∙ named-byte b (starts_name (d ∷ ds)) (parts (d ∷ ds)) h
        ∙ ap (λ (m : Bool). named m b (parts (d ∷ ds))) (starts_byte d ds ∙ k) ∙ ap (extended b) (f k))
    by false k f =
        rw (front_met in_name b (d ∷ ds) h, front_not_met in_name d ds k)
        (parts-byte b (d ∷ ds) ∙ named-byte b (starts_name (d ∷ ds)) (parts (d ∷ ds)) h
        ∙ ap (λ (m : Bool). named m b (parts (d ∷ ds))) (starts_byte d ds ∙ k))

-- ---- the other bytes
remark-first : (bs : List ℕ) → parts (35 ∷ bs) ≡ []
unfolding parts byte_parts in_name
remark-first bs = refl

other-first : (b : ℕ) (bs : List ℕ) → in_name b ≡ false → (b ≡ 10 → ⊥) → (b ≡ 35 → ⊥) → (b ≡ 32 → ⊥) → (b ≡ 40 → ⊥) → (b ≡ 41 → ⊥)
    → parts (b ∷ bs) ≡ other b ∷ parts bs
unfolding byte_parts
other-first b bs n h10 h35 h32 h40 h41 =
    parts-byte b bs ∙ rw (n, ne_eqb b 10 h10, ne_eqb b 35 h35, ne_eqb b 32 h32, ne_eqb b 40 h40, ne_eqb b 41 h41)

-- ---- at an offset of a text
module _ (text : List ℕ) (at start : ℕ) (e : start ≡ at + blanks (drop at text)) where
  passed : parts (drop at text) ≡ parts (drop start text)
  passed = parts-blanks (drop at text) ∙ ap parts (drop-drop (blanks (drop at text)) at text ∙ ap (λ (i : ℕ). drop i text) (sym e))

  -- nothing stands past the end
  pub none_told : length text ≤ start → parts (drop at text) ≡ []
  none_told h = passed ∙ ap parts (drop_of_length-le text {i = start} h) ∙ parts-nil

  module _ (h : start < length text) where
    stands : (b : ℕ) → get_or text start 0 ≡ b → drop start text ≡ b ∷ drop (start + 1) text
    stands b k = rw add-one (drop-cons text start 0 h ∙ ap (λ (x : ℕ). x ∷ drop (suc start) text) k)

    -- the byte after the spaces, with what it makes of the bytes after it
    by_byte : (b : ℕ) (ps : List Part) → get_or text start 0 ≡ b → parts (b ∷ drop (start + 1) text) ≡ ps → parts (drop at text) ≡ ps
    by_byte b ps k f = passed ∙ ap parts (stands b k) ∙ f

    pub newline-told : get_or text start 0 ≡ 10 → parts (drop at text) ≡ []
    newline-told k = by_byte 10 [] k (parts-newline (drop (start + 1) text))

    pub remark-told : get_or text start 0 ≡ 35 → parts (drop at text) ≡ []
    remark-told k = by_byte 35 [] k (remark-first (drop (start + 1) text))

    pub opening-told : get_or text start 0 ≡ 40 → PartTold text at (Opening (start + 1))
    opening-told k = (omega arith, omega arith, by_byte 40 _ k (opening-parts (drop (start + 1) text)), ap (λ (i : ℕ). i + 1) e)

    pub closing_told : get_or text start 0 ≡ 41 → PartTold text at (Closing (start + 1))
    closing_told k = (omega arith, omega arith, by_byte 41 _ k (closing_parts (drop (start + 1) text)), ap (λ (i : ℕ). i + 1) e)

    no_space : get_or text start 0 ≡ 32 → ⊥
    no_space k =
        let within : blanks (drop at text) < length (drop at text) = rw (length-drop at text) (omega arith) in
        let f : is_space (get_or (drop at text) (blanks (drop at text)) 0) ≡ false = front_ends is_space (drop at text) within in
        let g : get_or (drop at text) (blanks (drop at text)) 0 ≡ 32 = get_or-drop at text (blanks (drop at text)) 0 ∙ ap (λ (i : ℕ). get_or text i 0) (sym e) ∙ k in
        true≢false (sym (eq-eqb _ 32 g) ∙ f)

    pub other-told : in_name (get_or text start 0) ≡ false → (get_or text start 0 ≡ 10 → ⊥) → (get_or text start 0 ≡ 35 → ⊥)
        → (get_or text start 0 ≡ 40 → ⊥) → (get_or text start 0 ≡ 41 → ⊥) → OtherFirst (parts (drop at text))
    other-told n h10 h35 h40 h41 =
        let b = get_or text start 0 in
        record { byte = b; later = parts (drop (start + 1) text); found = by_byte b _ refl (other-first b (drop (start + 1) text) n h10 h35 no_space h40 h41) }

    pub name-told : (end : ℕ) → in_name (get_or text start 0) ≡ true → end ≡ start + name_length (drop start text) → PartTold text at (Name start end)
    name-told end n k =
        let b = get_or text start 0 in
        let bs = drop start text in
        let one : name_length bs ≡ suc (name_length (drop (start + 1) text)) =
        rw (stands b refl) (front_met in_name b (drop (start + 1) text) n) in
        let w = front-within in_name bs in
        let l = length-drop start text in
        let s : end - start ≡ name_length bs = omega arith in
        let f : parts bs ≡ name_first bs = rw (stands b refl) (name-first b (drop (start + 1) text) n) in
        let g : drop (name_length bs) bs ≡ drop end text = drop-drop (name_length bs) start text ∙ ap (λ (i : ℕ). drop i text) (sym k) in
        let first : parts (drop at text) ≡ name (take (end - start) (drop start text)) ∷ parts (drop end text) =
        rw s (passed ∙ f ∙ ap (λ (r : List ℕ). name (take (name_length bs) bs) ∷ parts r) g) in
        (omega arith, omega arith, omega arith, first, e, k)
