-- `gather_plain` meets its contract. Assumes nothing.
use mathlib.Core.Path.{◌∙◌}
use Rattle.stepping.proofs.Laws.{gathers-plain, keeps-plain}
use Rattle.stepping.proofs.gather_plain.Goals as goal

pub returns-then-depth-eq0 : goal.returns-then-depth-eq0
returns-then-depth-eq0 c =
    let a = c.args in
    c.union.ensures ∙ gathers-plain a.depth a.plain a.seen c.if-depth-eq0.true

pub returns : goal.returns
returns c = let a = c.args in keeps-plain a.depth a.plain a.seen c.if-depth-eq0.false
