-- The table by the number of an address's entry: whether the address is remembered, what is remembered there, and what a store makes of the
-- table.
-- Assumes nothing.
use Rattle.std.specs.Prelude.{◌≡◌, refl, Bool, true, false, cond, List, [], ◌∷◌, ℕ, zero, suc, ◌+◌, ◌<◌, eqb, length}
use Rattle.std.proofs.Common.{sym, ap, ◌∙◌, add-zero, arith}
use Rattle.location.specs.Sets.{empty}
use Rattle.rules.specs.Rules.Expressions.{tagged}
use Rattle.rules.specs.Rules.Outside.{recall, remembers}
use Rattle.rules.specs.Rules.Plain.{Entry}
use Rattle.rules.specs.Rules.Changes.{position}
use Rattle.work.specs.Words.{entry_at}
use Rattle.work.specs.Machines.{entries_from}

-- ---- an address that is remembered has a number below the count, and any other one the count
pub data Found (es : List Entry) (a : ℕ) : Type 0 where
  there : remembers es a ≡ true → position es a < length es → Found es a
  nowhere : remembers es a ≡ false → position es a ≡ length es → Found es a

pub found : (es : List Entry) (a : ℕ) → Found es a
unfolding remembers position
found [] a = nowhere refl refl
found (e ∷ es) a = go (eqb e.address a) refl (found es a)
  where
    go : (b : Bool) → eqb e.address a ≡ b → Found es a → Found (e ∷ es) a
    go true q f = there (rw (remembers, q)) (rw (position, q) (omega arith))
    go false q (there r l) = there (rw (remembers, q) r) (rw (position, q) (omega arith))
    go false q (nowhere r l) = nowhere (rw (remembers, q) r) (rw (position, q) (ap suc l))

-- ---- what is remembered is the word of that entry
pub recall-there : (w : List ℕ) (i n a : ℕ) → position (entries_from w i n) a < n
    → recall (tagged 0 empty) (entries_from w i n) a ≡ (entry_at w (i + position (entries_from w i n) a)).word
unfolding recall position
recall-there w i zero a h = absurd (omega arith)
recall-there w i (suc n) a h = go (eqb (entry_at w i).address a) h (recall-there w (suc i) n a)
  where
    go : (b : Bool) → cond b 0 (suc (position (entries_from w (suc i) n) a)) < suc n
        → (position (entries_from w (suc i) n) a < n
        → recall (tagged 0 empty) (entries_from w (suc i) n) a ≡ (entry_at w (suc i + position (entries_from w (suc i) n) a)).word)
        → cond b (entry_at w i).word (recall (tagged 0 empty) (entries_from w (suc i) n) a)
        ≡ (entry_at w (i + cond b 0 (suc (position (entries_from w (suc i) n) a)))).word
    go true l ih = ap (λ (j : ℕ). (entry_at w j).word) (sym (add-zero i))
    go false l ih =
        let p = position (entries_from w (suc i) n) a in
        let s : suc i + p ≡ i + suc p = omega arith in
        ih (omega arith) ∙ ap (λ (j : ℕ). (entry_at w j).word) s

pub recall-nowhere : (es : List Entry) (a : ℕ) → position es a ≡ length es → recall (tagged 0 empty) es a ≡ tagged 0 empty
unfolding recall position
recall-nowhere [] a h = refl
recall-nowhere (e ∷ es) a h = go (eqb e.address a) h (recall-nowhere es a)
  where
    go : (b : Bool) → cond b 0 (suc (position es a)) ≡ suc (length es) → (position es a ≡ length es → recall (tagged 0 empty) es a ≡ tagged 0 empty)
        → cond b e.word (recall (tagged 0 empty) es a) ≡ tagged 0 empty
    go true l ih = absurd (omega arith)
    go false l ih = ih (omega arith)
