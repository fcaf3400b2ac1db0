-- `fault_line` meets its contract: the fault that reading finds, or the last line where there is no instruction. Assumes nothing.
use Rattle.std.proofs.Common.{◌∙◌}
use Rattle.text_reader.proofs.Answers.{last-fault, line-fault}
use Rattle.text_reader.proofs.fault_line.Goals as goal

pub returns-then-n-eq0 : goal.returns-then-n-eq0
returns-then-n-eq0 c =
    let a = c.args in last-fault a.text.now c.count_lines-counted.ensures c.if-n-eq0.true

pub returns : goal.returns
returns c =
    let a = c.args in
    c.unwrap_or.ensures ∙ line-fault a.text.now c.count_lines-counted.ensures c.if-n-eq0.false c.read_lines.ensures
