-- `assign` meets its contract: the move and the counts are rule 3. Assumes nothing.
use mathlib.Core.Path.{refl}
use Prim.Native.Nat.{◌+◌}
use native.Mathlib.Omega.{arith}
use Rattle.location.specs.Sets.{registers}
use Rattle.stepping.proofs.Steps.{assigned}
use Rattle.stepping.proofs.assign.Goals as goal

pub assign-next-requires : goal.assign-next-requires
assign-next-requires c =
    let p = c.requires in
    let r = c.register-l.ensures in
    let h = p.3 in
    (p.0.fits, c.remaining_window-remaining.ensures.left p.0.costs p.0.window, omega arith)

pub count_step-requires : goal.count_step-requires
count_step-requires c =
    let p = c.requires in omega (arith, p.2, c.well_formed)

pub returns : goal.returns
returns c =
    let a = c.args in
    λ t cells most. record {
      made = λ p code ec costs.
          assigned _ a.v c.remaining_window-remaining.ensures c.assign-next.ensures (registers + cells) most p code costs a.r
          c.register-l.ensures refl
          c.empty.ensures c.count_step.ensures;
    }
