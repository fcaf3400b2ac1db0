-- What writing leaves in an area: one without length stays as it is; from the front on, any area has the text as far as it fits, and
-- then what stood there before.
-- Assumes nothing.
use Rattle.std.specs.Prelude.{◌≡◌, refl, ℕ, suc, ◌≤◌, length, take, set}
use Rattle.std.proofs.Math.Path.{ap}
use Rattle.std.proofs.Common.{◌∙◌, arith, take_all}
use mathlib.Core.List.{List, [], ◌∷◌, ◌++◌}
use Rattle.std.proofs.Math.ListN.{drop}
use Rattle.std.proofs.lemmas.List.Edits.{sets}
use Rattle.std.proofs.Math.Seq.{drop-nil}
use Rattle.rules.specs.Rules.Calls.{written}
use Rattle.byte_writer.specs.Writing.{Put}

sets-nil : (i : ℕ) (vs : List ℕ) → sets [] i vs ≡ []
sets-nil i [] = refl
sets-nil i (v ∷ vs) = sets-nil (suc i) vs

sets-cons : (x : ℕ) (l : List ℕ) (i : ℕ) (vs : List ℕ) → sets (x ∷ l) (suc i) vs ≡ x ∷ sets l i vs
sets-cons x l i [] = refl
sets-cons x l i (v ∷ vs) = sets-cons x (set l i v) (suc i) vs

sets-front : (l vs : List ℕ) → sets l 0 vs ≡ take (length l) vs ++ drop (length vs) l
sets-front [] vs = sets-nil 0 vs ∙ rw drop-nil
sets-front (x ∷ l) [] = refl
sets-front (x ∷ l) (v ∷ vs) = sets-cons v l 0 vs ∙ ap (λ (r : List ℕ). v ∷ r) (sets-front l vs)

pub put-empty : {at next : ℕ} {bytes after : List ℕ} → Put [] at bytes after next → after ≡ []
put-empty {at} {next} {bytes} {after} p = p.area ∙ sets-nil at bytes

module _ {before bytes after : List ℕ} {next : ℕ} (p : Put before 0 bytes after next) where
  pub put_next : next ≡ length bytes
  put_next = omega (arith, p.place)

  pub put_front : after ≡ take (length before) bytes ++ drop (length bytes) before
  put_front = p.area ∙ sets-front before bytes

  pub put-fits : length bytes ≤ length before → after ≡ written bytes before
  unfolding written
  put-fits h = put_front ∙ ap (λ (r : List ℕ). r ++ drop (length bytes) before) (take_all (length before) bytes h)
