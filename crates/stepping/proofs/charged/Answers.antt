-- `charged` meets its contract: the entry that is read is that of the instruction's kind. Assumes nothing.
use native.Mathlib.Omega.{arith}
use Rattle.stepping.proofs.Laws.{charged_exact}
use Rattle.stepping.proofs.charged.Goals as goal

pub cost_of-cost-requires : goal.cost_of-cost-requires
cost_of-cost-requires c =
    let k = c.kind.ensures.below in (k, omega (arith, c.requires))

pub returns : goal.returns
returns c =
    let a = c.args in
    charged_exact a.work.now a.window a.i _ _ _ c.kind.ensures.same c.cost_of-cost.ensures c.lowered.ensures
