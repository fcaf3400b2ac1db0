-- Writing one text after another or before one that stands, and the loops that write a text part by part.
-- Assumes nothing.
use Rattle.std.specs.Prelude.{◌≡◌, refl, List, [], ◌∷◌, ◌++◌, ℕ, suc, ◌+◌, ◌<◌, ◌≤◌, length, set}
use Rattle.std.proofs.Common.{sym, ap, ◌∙◌, add-zero, arith, length-append}
use Rattle.std.proofs.lemmas.List.Edits.{sets}
use Rattle.std.proofs.Math.Seq.{length-sets}
use Rattle.std.proofs.lemmas.List.{set_comm}
use Rattle.byte_writer.specs.Writing.{Put}

sets-append : (xs ys l : List ℕ) (i : ℕ) → sets l i (xs ++ ys) ≡ sets (sets l i xs) (i + length xs) ys
sets-append [] ys l i = rw add-zero
sets-append (x ∷ xs) ys l i =
    let e : suc i + length xs ≡ i + suc (length xs) = omega arith in
    sets-append xs ys (set l i x) (suc i) ∙ ap (λ (k : ℕ). sets (sets (set l i x) (suc i) xs) k ys) e

-- what is stored before a text may be stored first
set-sets : (ys l : List ℕ) (i v j : ℕ) → i < j → set (sets l j ys) i v ≡ sets (set l i v) j ys
set-sets [] l i v j h = refl
set-sets (y ∷ ys) l i v j h =
    let other : j ≡ i → ⊥ = λ e. omega arith in
    set-sets ys (set l j y) i v (suc j) (omega arith) ∙ ap (λ (r : List ℕ). sets r (suc j) ys) (set_comm l j i y v other)

sets-sets : (xs ys l : List ℕ) (i j : ℕ) → i + length xs ≤ j → sets (sets l j ys) i xs ≡ sets (sets l i xs) j ys
sets-sets [] ys l i j h = refl
sets-sets (x ∷ xs) ys l i j h =
    ap (λ (r : List ℕ). sets r (suc i) xs) (set-sets ys l i x j (omega arith)) ∙ sets-sets xs ys (set l i x) (suc i) j (omega arith)

-- ---- no text; one text, then another; one text before another that was written already
pub put-nothing : (a : List ℕ) (i : ℕ) → Put a i [] a i
put-nothing a i = record { area = refl; place = omega arith }

pub put-append : {a b d xs ys : List ℕ} {i j k : ℕ} → Put a i xs b j → Put b j ys d k → Put a i (xs ++ ys) d k
put-append {a} {b} {d} {xs} {ys} {i} {j} {k} p q = record {
  area = q.area ∙ rw (p.area, p.place) (sym (sets-append xs ys a i));
  place = omega (arith, p.place, q.place, length-append xs ys);
}

pub put-before : {a b d xs ys : List ℕ} {i j k : ℕ} → Put a (i + length xs) ys b k → Put b i xs d j → Put a i (xs ++ ys) d k
put-before {a} {b} {d} {xs} {ys} {i} {j} {k} p q = record {
  area = q.area ∙ rw p.area (sets-sets xs ys a i (i + length xs) (omega arith) ∙ sym (sets-append xs ys a i));
  place = omega (arith, p.place, length-append xs ys);
}

-- ---- a text written part by part: what is left to write from here on ends where the whole text ends
pub record Left (a : List ℕ) (i : ℕ) (whole b : List ℕ) (j : ℕ) (rest : List ℕ) : Type 0 where
  pub area : sets b j rest ≡ sets a i whole
  pub place : j + length rest ≡ i + length whole

module _ {a whole b : List ℕ} {i j : ℕ} where
  pub left_done : Left a i whole b j [] → Put a i whole b j
  left_done h = record { area = h.area; place = omega (arith, h.place) }

  pub left-length : {rest : List ℕ} → Left a i whole b j rest → length b ≡ length a
  left-length {rest} h = sym (length-sets b j rest) ∙ ap length h.area ∙ length-sets a i whole

  module _ {rest : List ℕ} (x later : List ℕ) (h : Left a i whole b j rest) (split : rest ≡ x ++ later) where
    -- the next part has room
    pub left-room : (m : ℕ) → i + length whole < m → j + length x < m
    left-room m room = omega (arith, h.place, ap length split, length-append x later)

    pub left-next : {d : List ℕ} {k : ℕ} → Put b j x d k → Left a i whole d k later
    left-next {d} {k} p = record {
      area = rw (p.area, p.place) (sym (sets-append x later b j)) ∙ ap (sets b j) (sym split) ∙ h.area;
      place = omega (arith, h.place, p.place, ap length split, length-append x later);
    }
