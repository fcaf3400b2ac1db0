-- The bytes at the front of a text that meet a test: how they are counted from one byte to the next, and what stands after them;
-- and the parts of a text by its first byte, and past its first spaces.
-- Assumes nothing.
use Rattle.std.specs.Prelude.{◌≡◌, Bool, true, false, List, [], ◌∷◌, ℕ, suc, ◌+◌, ◌<◌, ◌≤◌, length, get_or, drop}
use Rattle.std.proofs.Math.Path.{refl}
use Rattle.std.proofs.Common.{ap, ◌∙◌, add-one, arith, eqb-true, drop_of_length-le, drop-cons}
use Rattle.rules.specs.Rules.Parts.{newline, space, in_name, byte_parts, parts}
use Rattle.rules.proofs.Theorems.TextParts.{space-parts}
use Rattle.lexer.specs.Places.{front_length, is_space, blanks}
use Rattle.std.specs.List.{prefix_len}

module _ (test : ℕ → Bool) where
  -- ---- one byte more
  pub front_met : (b : ℕ) (bs : List ℕ) → test b ≡ true → front_length test (b ∷ bs) ≡ suc (front_length test bs)
  unfolding front_length
  front_met b bs h = let e : front_length test bs ≡ prefix_len test bs = refl in rw h (omega arith)

  pub front_not_met : (b : ℕ) (bs : List ℕ) → test b ≡ false → front_length test (b ∷ bs) ≡ 0
  unfolding front_length
  front_not_met b bs h = rw h

  pub front-nil : front_length test [] ≡ 0
  unfolding front_length
  front-nil = refl

  pub front-within : (bs : List ℕ) → front_length test bs ≤ length bs
  front-within [] = let e = front-nil in omega arith
  front-within (b ∷ bs) = by (test b) refl (front-within bs)
    where
      by : (t : Bool) → test b ≡ t → front_length test bs ≤ length bs → front_length test (b ∷ bs) ≤ suc (length bs)
      by true h k = let e = front_met b bs h in omega arith
      by false h k = let e = front_not_met b bs h in omega arith

  -- the byte after them does not meet the test
  pub front_ends : (bs : List ℕ) → front_length test bs < length bs → test (get_or bs (front_length test bs) 0) ≡ false
  front_ends [] k = absurd (let e = front-nil in omega arith)
  front_ends (b ∷ bs) k = by (test b) refl (λ l. front_ends bs l)
    where
      by : (t : Bool) → test b ≡ t → (front_length test bs < length bs → test (get_or bs (front_length test bs) 0) ≡ false)
          → test (get_or (b ∷ bs) (front_length test (b ∷ bs)) 0) ≡ false
      by true h f = let e = front_met b bs h in rw e (f (omega arith))
      by false h f = rw (front_not_met b bs h) h

  -- ---- from an offset to the next
  pub front-on : (text : List ℕ) (i : ℕ) → i < length text → test (get_or text i 0) ≡ true
      → i + front_length test (drop i text) ≡ i + 1 + front_length test (drop (i + 1) text)
  front-on text i k h =
      let e : front_length test (drop i text) ≡ suc (front_length test (drop (i + 1) text)) =
      rw (add-one, drop-cons text i 0 k) (front_met (get_or text i 0) (drop (suc i) text) h) in omega arith

  pub front-over : (text : List ℕ) (i : ℕ) → i < length text → test (get_or text i 0) ≡ false → i ≡ i + front_length test (drop i text)
  front-over text i k h =
      let e : front_length test (drop i text) ≡ 0 = rw (drop-cons text i 0 k) (front_not_met (get_or text i 0) (drop (suc i) text) h) in omega arith

  pub front_out : (text : List ℕ) (i : ℕ) → length text ≤ i → i ≡ i + front_length test (drop i text)
  front_out text i k =
      let e : front_length test (drop i text) ≡ 0 = rw (drop_of_length-le text {i = i} k) front-nil in omega arith

-- ---- parts, by the first byte
pub parts-nil : parts [] ≡ []
unfolding parts
parts-nil = refl

-- nothing of a line stands after its end
pub parts-newline : (bs : List ℕ) → parts (newline ∷ bs) ≡ []
unfolding parts byte_parts in_name
parts-newline bs = refl

-- ---- spaces before a part
-- the parts do not change when the spaces are passed
pub parts-blanks : (bs : List ℕ) → parts bs ≡ parts (drop (blanks bs) bs)
parts-blanks [] = rw (front-nil is_space)
parts-blanks (b ∷ bs) = by (is_space b) refl (parts-blanks bs)
  where
    by : (t : Bool) → is_space b ≡ t → parts bs ≡ parts (drop (blanks bs) bs) → parts (b ∷ bs) ≡ parts (drop (blanks (b ∷ bs)) (b ∷ bs))
    by true h i = rw (front_met is_space b bs h) (ap (λ (x : ℕ). parts (x ∷ bs)) (eqb-true b space h) ∙ space-parts bs ∙ i)
    by false h i = rw (front_not_met is_space b bs h)
