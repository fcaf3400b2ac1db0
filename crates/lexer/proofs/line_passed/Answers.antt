-- `lexer::line_passed` meets its contract: a line ends within the text. Assumes nothing.
use native.Mathlib.Omega.{arith}
use lib.ListN.{drop, length-drop}
use Prim.Native.Nat.{◌+◌}
use Rattle.lexer.specs.Places.{in_line}
use Rattle.lexer.specs.Fronts.{front-within}
use Rattle.lexer.proofs.line_passed.Goals as goal

pub overflow_add-result : goal.overflow_add-result
overflow_add-result c =
    let a = c.args in
    let w = front-within in_line (drop a.p.at a.text.now) in
    let l = length-drop a.p.at a.text.now in omega arith

pub returns : goal.returns
returns c =
    let p = c.args.p in λ i. record { at = c.line_end.ensures i + 1; line = p.line + 1 }
