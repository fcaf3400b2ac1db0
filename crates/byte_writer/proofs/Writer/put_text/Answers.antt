-- `Writer::put_text` meets its contract. The invariant: what is left of the bytes ends where all of them end. Assumes nothing.
use mathlib.Core.List.{[], ◌∷◌}
use Prim.Native.Nat.{◌+◌, ◌≤◌}
use native.Mathlib.Omega.{arith}
use lib.ListN.{length, get_or, drop, drop_of_length-le}
use Rattle.byte_writer.specs.Writers.{remains-whole, remains-nothing, remains-room, remains-next}
use Rattle.byte_writer.proofs.Laws.{byte_next}
use Rattle.byte_writer.proofs.Writer.put_text.Goals as goal

pub loop-byte-init : goal.loop-byte-init
loop-byte-init c = remains-whole _ _

pub put_byte-requires : goal.put_byte-requires
put_byte-requires c =
    let v = c.loop-byte in
    let bytes = c.args.bytes.now in
    remains-room (get_or bytes v.byte-index 0 ∷ []) (drop (v.byte-index + 1) bytes) v.invariant
    (byte_next bytes v.byte-index c.loop-byte-test.true) c.requires

pub loop-byte-preserved : goal.loop-byte-preserved
loop-byte-preserved c =
    let v = c.loop-byte in
    let bytes = c.args.bytes.now in
    remains-next (get_or bytes v.byte-index 0 ∷ []) (drop (v.byte-index + 1) bytes) v.invariant
    (byte_next bytes v.byte-index c.loop-byte-test.true) c.put_byte.ensures

pub returns : goal.returns
returns c =
    let v = c.loop-byte in
    let past : length c.args.bytes.now ≤ v.byte-index = omega arith in
    remains-nothing (rw (drop_of_length-le c.args.bytes.now) at v.invariant)
