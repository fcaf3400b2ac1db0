-- `index_tokens` meets its contract. The invariant: the tokens left, over the texts of those indexed so far, leave the texts of all.
-- Assumes nothing.
use mathlib.Core.List.{[]}
use Prim.Native.Nat.{◌-◌}
use Rattle.rules.specs.Rules.TextPrinting.{text_on}
use Rattle.token.specs.Meaning.{tokens_of}
use Rattle.text_printer.proofs.Operands.{Left}
use Rattle.text_printer.proofs.index_tokens.Given as goal

abbrev pub invariant-loop-i : goal.invariant-loop-i
invariant-loop-i l =
    Left l.p (text_on (tokens_of l.p (record { at = l.initial.offset; count = l.i-end })) []) (l.i-end - l.i) l.offset l.i l.offsets l.below
