-- `record_bits` meets its contract. The invariant: what is left to record gives the words that are wanted. Assumes nothing.
use mathlib.Core.Path.{◌≡◌, sym, ap, ◌∙◌}
use Prim.Native.Nat.{ℕ, ◌+◌, ◌-◌}
use native.Mathlib.Omega.{arith}
use Rattle.firsts.specs.Recording.{recorded_bits}
use Rattle.firsts.proofs.Laws.{bits_none, bits_over, bits_step}
use Rattle.firsts.proofs.record_bits.Goals as goal

pub loop-at-preserved : goal.loop-at-preserved
loop-at-preserved c =
    let a = c.args in
    let v = c.loop-at in
    let n = a.from + 64 - v.at in
    let e : a.from + 64 - (v.at + 1) ≡ n - 1 = omega arith in
    rw (e, c.record_bit.ensures) (bits_step a.word v.s v.f v.work v.at n (omega arith) ∙ v.invariant)

-- nothing is left of the observed set
pub returns-then-s-eq0 : goal.returns-then-s-eq0
returns-then-s-eq0 c =
    let v = c.loop-at in
    let a = c.args in
    let n = a.from + 64 - v.at in
    sym (bits_none a.word v.f v.work v.at n) ∙ ap (λ (s : ℕ). recorded_bits a.word s v.f v.work v.at n) (sym c.if-s-eq0.true) ∙ v.invariant

-- all are passed
pub returns : goal.returns
returns c =
    let v = c.loop-at in
    let a = c.args in
    let e : a.from + 64 - v.at ≡ 0 = omega arith in
    sym (bits_over a.word v.s v.f v.work v.at _ e) ∙ v.invariant
