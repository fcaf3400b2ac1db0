-- `write_state` meets its contract. The invariant: what is left of the new state from location l on ends where all of it ends.
-- Assumes nothing.
use mathlib.Core.Path.{refl}
use Prim.Native.Nat.{◌+◌, ◌^◌}
use native.Mathlib.Omega.{arith}
use Rattle.rules.specs.Rules.Encoding.{bytes_of}
use Rattle.byte_writer.specs.Texts.{left_done, left-length, left-room, left-next}
use Rattle.byte_writer.specs.Areas.{put-fits}
use Rattle.test_load.proofs.Laws.{rest_of, rest-next, rest_over, rest-length, rest-first}
use Rattle.test_load.proofs.write_state.Goals as goal

pub loop-l-init : goal.loop-l-init
loop-l-init c = record { area = refl; place = refl }

pub put_number-place-requires : goal.put_number-place-requires
unfolding bytes_of
put_number-place-requires c =
    let a = c.args in
    let v = c.loop-l in
    let x = c.new_word-made.result in
    let z = rest-length a.kept a.bytes.now a.at a.n a.seed in
    left-room (bytes_of 8 x.word) (rest_of a.kept a.bytes.now a.at a.n x.last (v.l + 1)) v.invariant
    (rest-next a.kept a.bytes.now a.at a.n v.last v.l (omega arith) c.new.ensures c.member-keep.ensures
    c.word_at-own.ensures c.new_word-made.ensures) (2 ^ 64) (omega arith)

pub loop-l-preserved : goal.loop-l-preserved
loop-l-preserved c =
    let a = c.args in
    let v = c.loop-l in
    let x = c.new_word-made.result in
    left-next (bytes_of 8 x.word) (rest_of a.kept a.bytes.now a.at a.n x.last (v.l + 1)) v.invariant
    (rest-next a.kept a.bytes.now a.at a.n v.last v.l (omega arith) c.new.ensures c.member-keep.ensures
    c.word_at-own.ensures c.new_word-made.ensures) c.put_number-place.ensures

pub shape_of-state : goal.shape_of-state
shape_of-state c = left-length c.loop-l.invariant

pub returns-clause-state : goal.returns-clause-state
returns-clause-state c =
    let a = c.args in
    let v = c.loop-l in
    let whole = rest-first a.kept a.bytes.now a.at a.n a.seed in
    let z = rest-length a.kept a.bytes.now a.at a.n a.seed in
    let all = left_done (rw (rest_over a.kept a.bytes.now a.at a.n v.last v.l (omega arith)) at v.invariant) in
    rw whole at (put-fits all (omega arith))
