-- F-4, "Stores outside the image": the table of what was stored at addresses of m or above, for any type W of words.
-- Assumes nothing.
use Rattle.std.specs.Prelude.{Bool, true, false, not, ◌&&◌, cond, List, [], ◌∷◌, ℕ, eqb, leb, length}
use Rattle.rules.specs.Rules.Limits.{max_entries}

-- An address with the word that was stored there last. A table has its entries in order of first store.
pub record EntryOf (W : Type 0) : Type 0 where
  pub address : ℕ
  pub word : W

-- what is remembered at an address; where nothing is, a word that stands for that: "Unwritten addresses still read 0"
unfoldable pub recall : {W : Type 0} → W → List (EntryOf W) → ℕ → W
recall unwritten [] a = unwritten
recall unwritten (e ∷ es) a = cond (eqb e.address a) e.word (recall unwritten es a)

-- "a later store to a remembered address replaces it"; any other comes after all that are remembered
unfoldable pub remember : {W : Type 0} → List (EntryOf W) → ℕ → W → List (EntryOf W)
remember [] a t = record { address = a; word = t } ∷ []
remember (e ∷ es) a t = cond (eqb e.address a) (record { address = e.address; word = t } ∷ es) (e ∷ remember es a t)

unfoldable pub remembers : {W : Type 0} → List (EntryOf W) → ℕ → Bool
remembers [] a = false
remembers (e ∷ es) a = cond (eqb e.address a) true (remembers es a)

-- "for up to 64 addresses": a store at this address "would need a 65th address"
unfoldable pub overfull : {W : Type 0} → List (EntryOf W) → ℕ → Bool
overfull es a = leb max_entries (length es) && not (remembers es a)
