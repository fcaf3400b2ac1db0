-- `read_line` meets its contract, by the part that stands first. Assumes nothing.
use Rattle.std.proofs.Common.{drop}
use Rattle.rules.specs.Rules.Parts.{parts}
use Rattle.rules.specs.Rules.TextReading.{line_of}
use Rattle.text_reader.proofs.Lines.{line_by, full-told, word_unknown, name-told, end-told, other-told}
use Rattle.text_reader.proofs.read_line.Goals as goal

pub returns-in-End : goal.returns-in-End
returns-in-End c =
    let a = c.args in end-told a.n a.i a.text.now a.p.at c.in-End.ensures

pub returns-then-i-ge-MAX_INSTRUCTIONS : goal.returns-then-i-ge-MAX_INSTRUCTIONS
returns-then-i-ge-MAX_INSTRUCTIONS c =
    let a = c.args in full-told a.n a.i a.text.now a.p.at c.in-Name.ensures c.if-i-ge-MAX_INSTRUCTIONS.true

pub returns-in_err-kind-in-Name : goal.returns-in_err-kind-in-Name
returns-in_err-kind-in-Name c =
    let a = c.args in
    line_by a.n a.i (line_of (parts (drop a.p.at a.text.now))) a.out.now a.p.to a.out.now c.from_residual.ensures
    (word_unknown a.n a.i a.text.now a.p.at c.in-Name.ensures c.in_err-kind-in-Name.ensures)

pub returns-in_ok-kind-in-Name : goal.returns-in_ok-kind-in-Name
returns-in_ok-kind-in-Name c =
    let a = c.args in
    name-told a.n a.i a.text.now a.p.at c.in-Name.ensures a.out.now a.p.to c.read_instruction.new.out c.read_instruction.result
    c.in_ok-kind-in-Name.ensures c.read_instruction.ensures

pub returns-in_default : goal.returns-in_default
returns-in_default c =
    let a = c.args in other-told a.n a.i a.text.now a.p.at c.part_at.result c.part_at.ensures c.in_default.not-End c.in_default.not-Name
