-- What the rules' reader of a byte gives before the end of the bytes, and from there on.
-- Assumes nothing.
use Rattle.std.specs.Prelude.{◌≡◌, List, ℕ, ◌+◌, ◌<◌, ◌≤◌, length, get_or}
use Rattle.std.proofs.Common.{lt-ltb, le-ltb}
use Rattle.rules.specs.declared.Refusal.TheVariants as refusals
use Rattle.rules.specs.Rules.JobFile.{got, refused, byte}

pub byte-got : (p : List ℕ) (at : ℕ) → at < length p → byte p at ≡ got (get_or p at 0) (at + 1)
unfolding byte
byte-got p at h = simp (lt-ltb _ _ h)

pub byte_past : (p : List ℕ) (at : ℕ) → length p ≤ at → byte p at ≡ refused refusals.Encoding
unfolding byte
byte_past p at h = simp (le-ltb _ _ h)
