-- `transfer::save_values` meets its contract. The invariant: storing the values left gives what storing all of them gives.
-- Assumes nothing.
use mathlib.Core.Path.{◌≡◌, refl, ◌∙◌}
use Prim.Native.Nat.{◌-◌}
use native.Mathlib.Nat.{sub-zero}
use native.Mathlib.Omega.{arith}
use Rattle.rules.specs.Rules.Plain.{values}
use Rattle.transfer.proofs.Laws.{save_more, save_all}
use Rattle.transfer.proofs.save_values.Goals as goal

pub loop-saved-init : goal.loop-saved-init
loop-saved-init c = rw sub-zero

pub loop-saved-preserved : goal.loop-saved-preserved
loop-saved-preserved c =
    let a = c.args in
    let v = c.loop-saved in
    save_more a.work.now v.area _ a.n v.saved c.new.result.0 c.load_value.result (omega arith) c.new.ensures c.load_value.ensures refl
    ∙ v.invariant

pub returns : goal.returns
unfolding values
returns c =
    let a = c.args in
    let v = c.loop-saved in
    let z : a.n - v.saved ≡ 0 = omega arith in
    (rw z at v.invariant) ∙ save_all a.work.now a.area.now a.n (omega arith)
