-- `lexer::span_end` meets its contract. The invariant: from here on the bytes that meet the test end where they end from the first offset on.
-- Assumes nothing.
use Rattle.std.proofs.Common.{◌≡◌, ◌+◌, ℕ, Bool, drop}
use Prim.{tt}
use Rattle.lexer.specs.Places.{front_length}
use Rattle.lexer.proofs.span_end.Given as goal

abbrev pub invariant-loop-i : goal.invariant-loop-i
invariant-loop-i g l =
    (test : ℕ → Bool) → ((b : ℕ) (met : Bool) → g.F.Fn.post l.goes_on (b, tt) met → met ≡ test b)
    → l.at + front_length test (drop l.at l.text) ≡ l.i + front_length test (drop l.i l.text)
