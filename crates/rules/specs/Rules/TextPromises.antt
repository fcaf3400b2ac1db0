-- What each call on routines as text promises, in one record, of the bytes and the area that the call is given, of the very answer r
-- that it returns and of the area as it leaves it (`after`).
--   exact      the answer and every byte of the lent area are those of the rules, for refused texts and jobs too;
--   unaltered  a refusal leaves the area as it was;
--   accepted   what was read is a program that 4 to 7 do not refuse: document 01's reader takes its bytes;
--   round_trip  reading the text that was printed restores the program's bytes, and its counts.
-- Assumes nothing.
use Rattle.std.specs.Prelude.{◌≡◌, List, ℕ, ◌≤◌, length, take, Ok}
use Rattle.rules.specs.Rules.Outcomes.{PrintAnswer, ReadAnswer, read_as}
use Rattle.rules.specs.Rules.Answers.{read_refusal, print_refusal}
use Rattle.rules.specs.Rules.Instructions.{Instr}
use Rattle.rules.specs.Rules.JobFile.{got, program, trailer}
use Rattle.rules.specs.Rules.Calls.{written}
use Rattle.rules.specs.Rules.Demands.{Exact, Unaltered}
use Rattle.rules.specs.Rules.TextCalls.{read_call, print_call}

-- document 01's reader takes these bytes, to the last, as a program of n instructions
pub record ReadsAs (bytes : List ℕ) (n : ℕ) : Type 0 where
  pub prog : List Instr
  pub read : program n n 0 bytes 0 ≡ got prog (length bytes)

-- "or a program that 4 to 6 would refuse" is turned away: where reading gave k bytes and n instructions, the first k of the area are such bytes
pub record Acceptable (r : ReadAnswer) (after : List ℕ) : Type 0 where
  pub program : {k n : ℕ} → r ≡ Ok (read_as k n) → ReadsAs (take k after) n

pub record ReadPromise (text before : List ℕ) (r : ReadAnswer) (after : List ℕ) : Type 0 where
  pub exact : Exact (read_call text before) r after
  pub unaltered : Unaltered read_refusal r before after
  pub accepted : Acceptable r after

-- "reading that text restores the program's bytes": where printing gave n bytes, the text is the first n of the area, and reading it into
-- any area that has room for the program gives the job's own S bytes before the state and its count of instructions
pub record RoundTrip (job : List ℕ) (r : PrintAnswer) (after : List ℕ) : Type 0 where
  pub restores : {n : ℕ} → r ≡ Ok n → (area : List ℕ) → (trailer job).state ≤ length area
      → Exact (read_call (take n after) area) (Ok (read_as (trailer job).state (trailer job).count)) (written (take (trailer job).state job) area)

pub record PrintPromise (job before : List ℕ) (r : PrintAnswer) (after : List ℕ) : Type 0 where
  pub exact : Exact (print_call job before) r after
  pub unaltered : Unaltered print_refusal r before after
  pub round_trip : RoundTrip job r after
