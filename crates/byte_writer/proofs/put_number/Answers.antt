-- `put_number` meets its contract. The invariant: the bytes of what is left of the number end where all of them end. Assumes nothing.
use mathlib.Core.Path.{◌≡◌, refl}
use mathlib.Core.List.{[], ◌∷◌}
use Prim.Native.Nat.{◌+◌, ◌-◌, ◌/◌, ◌%◌, ◌^◌}
use native.Mathlib.Omega.{arith}
use Rattle.rules.specs.Rules.Encoding.{bytes_of}
use Rattle.rules.proofs.Theorems.EncodedFields.{length-bytes_of}
use Rattle.byte_writer.specs.Texts.{left_done, left-room, left-next}
use Rattle.byte_writer.proofs.Laws.{number-next, number-over}
use Rattle.byte_writer.proofs.put_number.Goals as goal

pub loop-init : goal.loop-init
loop-init c =
    let all : c.args.k - 0 ≡ c.args.k = omega arith in
    rw all (record { area = refl; place = refl })

pub put_byte-next-requires : goal.put_byte-next-requires
put_byte-next-requires c =
    let v = c.loop in
    let a = c.args in
    left-room ((v.rest % 256) ∷ []) (bytes_of (a.k - (v.counter + 1)) (v.rest / 256)) v.invariant
    (number-next a.k v.counter v.rest c.loop-test.true) (2 ^ 64) (omega (arith, length-bytes_of a.k a.n))

pub loop-preserved : goal.loop-preserved
loop-preserved c =
    let v = c.loop in
    let a = c.args in
    left-next ((v.rest % 256) ∷ []) (bytes_of (a.k - (v.counter + 1)) (v.rest / 256)) v.invariant
    (number-next a.k v.counter v.rest c.loop-test.true) c.put_byte-next.ensures

pub returns : goal.returns
returns c =
    let v = c.loop in
    let none : c.args.k - v.counter ≡ 0 = omega arith in
    left_done (rw (none, number-over v.rest) at v.invariant)
