-- What writing bytes into a lent area does.
-- Assumes nothing.
use Rattle.std.specs.Prelude.{◌≡◌, List, ℕ, ◌+◌, length}
use Rattle.std.proofs.lemmas.List.Edits.{sets}

-- The bytes are written from a place of an area on, as far as the area goes; all its other bytes keep their contents. The next
-- place is the one after them, also where they do not fit.
pub record Put (before : List ℕ) (at : ℕ) (bytes after : List ℕ) (next : ℕ) : Type 0 where
  pub area : after ≡ sets before at bytes
  pub place : next ≡ at + length bytes
