-- `read_operand` meets its contract: an operand that keeps the postfix rule. Assumes nothing.
use Rattle.std.proofs.Common.{sym, drop}
use borrow.Author.Tests.{not-true, not-false}
use Rattle.rules.specs.Rules.Parts.{parts}
use Rattle.rules.specs.Rules.TextReading.{whole_operand}
use Rattle.text_reader.specs.Fields.{expression}
use Rattle.text_reader.proofs.Fields.{told-by, whole-read, whole_unsound, whole-unread}
use Rattle.text_reader.proofs.read_operand.Goals as goal

pub returns-in_err-whole : goal.returns-in_err-whole
returns-in_err-whole c =
    let a = c.args in
    told-by expression a.text.now (whole_operand (parts (drop a.p.at a.text.now))) a.out.now a.p.to c.read_whole.new.out (sym c.from_residual.ensures)
    (whole-unread a.text.now a.p.at c.in_err-whole.ensures)

pub returns-then-not-whole : goal.returns-then-not-whole
returns-then-not-whole c = whole_unsound c.in_ok-whole.ensures (not-true _ c.if-not-whole.true)

pub returns : goal.returns
returns c = whole-read c.in_ok-whole.ensures (not-false _ c.if-not-whole.false)
