-- What loading promises, and what follows for the words that stand elsewhere.
-- Assumes nothing.
use Rattle.std.specs.Prelude.{◌≡◌, List, ℕ, ◌≤◌, length, drop, set}
use Rattle.std.proofs.Common.{◌∙◌, arith, drop-set-lt}
use Rattle.location.specs.Sets.{limit}
use Rattle.rules.specs.Rules.Plain.{first_state}
use Rattle.rules.specs.Rules.JobFile.{words_at}
use Rattle.work.specs.Layout.{operand_base, entry_count, log_base}
use Rattle.work.specs.Machines.{state_in}
use Rattle.work.proofs.Ranges.{drop_past}

-- The state of n locations is the first one of a run, by the words at an offset of the bytes; of the words past its operands the count of
-- entries alone is another.
pub record StateLoaded (bs : List ℕ) (at n : ℕ) (w w' : List ℕ) : Type 0 where
  pub state : state_in w' n ≡ first_state (words_at n bs at)
  pub after : drop (operand_base n) w' ≡ drop (operand_base n) (set w entry_count 0)
  pub size : length w' ≡ length w

-- ---- laws
-- the words from the log on, wherever one begins
pub state-loaded_after : {bs : List ℕ} {at n : ℕ} {w w' : List ℕ} → StateLoaded bs at n w w' → n ≤ limit → (m : ℕ) → log_base ≤ m
    → drop m w' ≡ drop m w
state-loaded_after {bs} {at} {n} {w} {w'} s hn m h =
    drop_past w' (set w entry_count 0) (operand_base n) m (omega arith) s.after ∙ drop-set-lt m w entry_count 0 (omega arith)
