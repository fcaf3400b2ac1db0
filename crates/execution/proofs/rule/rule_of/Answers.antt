-- `rule_of` meets its contract: its tests name the rules' answer. Assumes nothing.
use Rattle.execution.proofs.Machine.{names_over, names_end, names_spent, names_advance}
use Rattle.execution.proofs.rule.rule_of.Goals as goal

pub returns-then-c-eq0 : goal.returns-then-c-eq0
returns-then-c-eq0 c =
    λ w n. names_over c.args.c c.args.end w n c.if-end-c.true c.if-c-eq0.true

pub returns-then-end-c : goal.returns-then-end-c
returns-then-end-c c =
    λ w n. names_end c.args.c c.args.end w n c.if-end-c.true c.if-c-eq0.false

pub returns-then-c-eq0-2 : goal.returns-then-c-eq0-2
returns-then-c-eq0-2 c =
    λ w n. names_spent c.args.c c.args.end w n c.requires c.if-end-c.false c.if-c-eq0-2.true

pub returns : goal.returns
returns c =
    λ w n. names_advance c.args.c c.args.end w n c.if-end-c.false c.if-c-eq0-2.false
