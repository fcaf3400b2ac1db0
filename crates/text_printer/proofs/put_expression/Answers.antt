-- `put_expression` meets its contract: the whole expression is the operand that all its tokens end with. Assumes nothing.
use native.Mathlib.Omega.{arith}
use Rattle.text_printer.proofs.Operands.{printable_readable, printable_few, whole-text, whole-operand}
use Rattle.text_printer.proofs.put_expression.Goals as goal

pub index_tokens-requires : goal.index_tokens-requires
index_tokens-requires c =
    let a = c.args in
    let few = printable_few a.p.now a.e c.requires.0 in
    (printable_readable a.p.now a.e c.requires.0, omega arith, omega arith)

pub put_operand-requires : goal.put_operand-requires
put_operand-requires c =
    let a = c.args in
    let x = c.index_tokens in
    whole-operand a.p.now a.e c.requires.0 x.ensures a.writer.now.at (omega arith) (omega arith) c.requires.1

pub returns : goal.returns
returns c =
    let a = c.args in
    rw (whole-text a.p.now a.e c.requires.0 c.index_tokens.ensures) at c.put_operand.ensures
