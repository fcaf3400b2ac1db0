-- `token::scan_tokens` meets its contract. The invariant: scanning the tokens left, from the values held now, is the whole scan.
-- Assumes nothing.
use mathlib.Core.Path.{◌≡◌}
use Prim.Native.Nat.{◌-◌}
use Rattle.rules.specs.Rules.JobFile.{tokens}
use Rattle.token.specs.Meaning.{scan_of}
use Rattle.token.proofs.scan_tokens.Given as goal

abbrev pub invariant-loop : goal.invariant-loop
invariant-loop l = scan_of l.held (tokens (l.count - l.counter) l.p l.next) ≡ scan_of 0 (tokens l.count l.p l.at)
