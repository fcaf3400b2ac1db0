-- `token::tokens_end` meets its contract. The invariant: the tokens left can be read, and end where all of them do.
-- Assumes nothing.
use mathlib.Core.Path.{◌≡◌}
use mathlib.Core.Bool.{true}
use Prim.Native.Nat.{◌-◌}
use Rattle.rules.specs.Rules.JobFile.{tokens}
use Rattle.rules.specs.Theorems.Readers.{readable, next_offset}
use Rattle.token.proofs.tokens_end.Given as goal

abbrev pub invariant-loop : goal.invariant-loop
invariant-loop l =
    (readable (tokens (l.end - l.counter) l.p l.offset) ≡ true) × (next_offset (tokens (l.end - l.counter) l.p l.offset) ≡ next_offset (tokens l.end l.p l.initial.offset))
