-- Laws of the table of stores outside the image: what a store does to it by the number of the address's entry, how it is undone, and that it
-- never has more than 64 entries.
-- Assumes nothing.
use Rattle.std.specs.Prelude.{◌≡◌, refl, Bool, true, false, not, ◌&&◌, cond, List, [], ◌∷◌, ◌++◌, ℕ, zero, suc, ◌≤◌, eqb, leb, length, take}
use Rattle.std.proofs.Common.{sym, ap, ◌∙◌, true≢false, arith, length-append, leb-false}
use Rattle.location.specs.Sets.{empty}
use Rattle.rules.specs.declared.Tagged.{Tagged}
use Rattle.rules.specs.Rules.Limits.{max_entries}
use Rattle.rules.specs.Rules.Expressions.{tagged}
use Rattle.rules.specs.Rules.Outside.{recall, remember, remembers, overfull}
use Rattle.rules.specs.Rules.Plain.{Entry}
use Rattle.rules.specs.Rules.Changes.{position, reworded}

abbrev nothing : Tagged
nothing = tagged 0 empty

-- ---- a store at an address that is remembered replaces its entry
pub remember-replaced : (es : List Entry) (a : ℕ) (t : Tagged) → remembers es a ≡ true → remember es a t ≡ reworded es (position es a) t
unfolding remembers remember position reworded
remember-replaced [] a t h = absurd (true≢false (sym h))
remember-replaced (e ∷ es) a t h = go (eqb e.address a) h (remember-replaced es a t)
  where
    go : (b : Bool) → cond b true (remembers es a) ≡ true → (remembers es a ≡ true → remember es a t ≡ reworded es (position es a) t)
        → cond b (record { address = e.address; word = t } ∷ es) (e ∷ remember es a t) ≡ reworded (e ∷ es) (cond b 0 (suc (position es a))) t
    go true k ih = refl
    go false k ih = ap (λ (fs : List Entry). e ∷ fs) (ih k)

-- ---- a store at any other address adds one after the others
pub remember-added : (es : List Entry) (a : ℕ) (t : Tagged) → remembers es a ≡ false → remember es a t ≡ es ++ (record { address = a; word = t } ∷ [])
unfolding remembers remember
remember-added [] a t h = refl
remember-added (e ∷ es) a t h = go (eqb e.address a) h (remember-added es a t)
  where
    go : (b : Bool) → cond b true (remembers es a) ≡ false
        → (remembers es a ≡ false → remember es a t ≡ es ++ (record { address = a; word = t } ∷ []))
        → cond b (record { address = e.address; word = t } ∷ es) (e ∷ remember es a t) ≡ e ∷ es ++ (record { address = a; word = t } ∷ [])
    go true k ih = absurd (true≢false k)
    go false k ih = ap (λ (fs : List Entry). e ∷ fs) (ih k)

-- ---- either is undone
pub replaced-back : (es : List Entry) (a : ℕ) (t : Tagged) → remembers es a ≡ true
    → reworded (remember es a t) (position es a) (recall nothing es a) ≡ es
unfolding remembers remember position reworded recall
replaced-back [] a t h = absurd (true≢false (sym h))
replaced-back (e ∷ es) a t h = go (eqb e.address a) h (replaced-back es a t)
  where
    go : (b : Bool) → cond b true (remembers es a) ≡ true
        → (remembers es a ≡ true → reworded (remember es a t) (position es a) (recall nothing es a) ≡ es)
        → reworded (cond b (record { address = e.address; word = t } ∷ es) (e ∷ remember es a t)) (cond b 0 (suc (position es a)))
        (cond b e.word (recall nothing es a))
        ≡ e ∷ es
    go true k ih = refl
    go false k ih = ap (λ (fs : List Entry). e ∷ fs) (ih k)

pub added-back : (es : List Entry) (a : ℕ) (t : Tagged) → remembers es a ≡ false → take (length es) (remember es a t) ≡ es
unfolding remembers remember
added-back [] a t h = refl
added-back (e ∷ es) a t h = go (eqb e.address a) h (added-back es a t)
  where
    go : (b : Bool) → cond b true (remembers es a) ≡ false → (remembers es a ≡ false → take (length es) (remember es a t) ≡ es)
        → take (suc (length es)) (cond b (record { address = e.address; word = t } ∷ es) (e ∷ remember es a t)) ≡ e ∷ es
    go true k ih = absurd (true≢false k)
    go false k ih = ap (λ (fs : List Entry). e ∷ fs) (ih k)

-- ---- how many entries there are
reworded-length : (es : List Entry) (i : ℕ) (t : Tagged) → length (reworded es i t) ≡ length es
unfolding reworded
reworded-length [] i t = refl
reworded-length (e ∷ es) zero t = refl
reworded-length (e ∷ es) (suc i) t = ap suc (reworded-length es i t)

-- "for up to 64 addresses": a store that does not need one too many leaves no more
pub remember-most : (es : List Entry) (a : ℕ) (t : Tagged) → length es ≤ max_entries → overfull es a ≡ false → length (remember es a t) ≤ max_entries
unfolding overfull
remember-most es a t m h = go (remembers es a) (leb max_entries (length es)) refl refl h
  where
    go : (r l : Bool) → remembers es a ≡ r → leb max_entries (length es) ≡ l → (l && not r) ≡ false → length (remember es a t) ≤ max_entries
    go true l er el k = let s = ap length (remember-replaced es a t er) ∙ reworded-length es (position es a) t in omega arith
    go false true er el k = absurd (true≢false k)
    go false false er el k =
        let s = ap length (remember-added es a t er) ∙ length-append es (record { address = a; word = t } ∷ []) in
        let u = leb-false max_entries (length es) el in
        omega arith
