-- `load_word` meets its contract: the move, the observation and the counts are rule 3. Assumes nothing.
use mathlib.Core.Path.{refl}
use Prim.Native.Nat.{◌+◌}
use native.Mathlib.Omega.{arith}
use Rattle.location.specs.Sets.{registers}
use Rattle.rules.specs.Rules.Instructions.{loaded}
use Rattle.stepping.proofs.Steps.{assigned_shown}
use Rattle.stepping.proofs.load_word.Goals as goal

pub assign-loaded-requires : goal.assign-loaded-requires
assign-loaded-requires c =
    let p = c.requires in
    let r = c.register-to.ensures in
    let h = p.1 in
    (p.0.unexpired.fits, c.remaining_window-remaining.ensures.left p.0.unexpired.costs p.0.unexpired.window, omega arith)

pub returns : goal.returns
returns c =
    let a = c.args in
    λ cells most. record {
      made = λ p code ec costs.
          assigned_shown _ _ c.remaining_window-remaining.ensures c.assign-loaded.ensures (registers + cells) most p code costs
          (loaded a.a.value) a.r a.v c.register-to.ensures refl refl c.observe.ensures c.count_step.ensures;
    }
