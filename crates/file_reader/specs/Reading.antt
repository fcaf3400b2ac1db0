-- What holds of a reading: the bytes that it counts are in the buffer, and those that fill a job's buffer are refused for their length.
-- Assumes nothing.
use Rattle.std.specs.Prelude.{◌≡◌, true, false, List, ℕ, ◌≤◌, ◌<◌, leb, length, take, Option, None, Some}
use Rattle.std.proofs.Common.{arith, le-leb}
use Rattle.std.proofs.Math.Seq.{take-length}
use Rattle.std.proofs.lemmas.Bool.{lt-leb}
use Rattle.rules.specs.declared.Refusal.TheVariants as refusals
use Rattle.rules.specs.Rules.Limits.{max_bytes, trailer_size}
use Rattle.rules.specs.Rules.JobFile.{rejected, sized, parse}

abbrev pub InBuffer : Option ℕ → ℕ → Type 0
InBuffer (Some n) size = n ≤ size
InBuffer None size = Unit {0}

-- a full buffer is refused with 1
abbrev pub FullRefused : Option ℕ → List ℕ → Type 0
FullRefused (Some n) buffer = n ≡ length buffer → parse (take n buffer) ≡ rejected refusals.Length
FullRefused None buffer = Unit {0}

-- more than 16,384 bytes
long-refused : (bs : List ℕ) → max_bytes < length bs → parse bs ≡ rejected refusals.Length
unfolding sized parse
long-refused bs h =
    let a : leb trailer_size (length bs) ≡ true = le-leb trailer_size (length bs) (omega arith) in
    let b : leb (length bs) max_bytes ≡ false = lt-leb (length bs) max_bytes h in
    rw (a, b)

pub full-refused : (r : Option ℕ) (buffer : List ℕ) → max_bytes < length buffer → FullRefused r buffer
full-refused (Some n) buffer h = λ e. rw (e, take-length buffer) (long-refused buffer h)
full-refused None buffer h = tt
