-- The table outside the image in an end area, entry by entry.
-- Assumes nothing.
use Rattle.std.specs.Prelude.{cond, List, [], ◌∷◌, ℕ, ltb}
use Rattle.work.specs.Words.{count_in, entry_at}

-- the two words of entry number i: "each entry's address and value side by side", "zeros after"
abbrev pub entry_words_at : List ℕ → ℕ → List ℕ
entry_words_at w i =
    let held = ltb i (count_in w) in
    cond held (entry_at w i).address 0 ∷ cond held (entry_at w i).word.value 0 ∷ []
