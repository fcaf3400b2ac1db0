-- `put_trace` meets its contract. The invariant: what is left of the trace ends where its lines end. Assumes nothing.
use mathlib.Core.Path.{◌≡◌}
use Prim.Native.Nat.{◌+◌, ◌-◌, ◌*◌, ◌<◌, ◌≤◌}
use native.Mathlib.Omega.{arith}
use lib.ListN.{length, get_or, drop}
use Rattle.rules.specs.Rules.Instructions.{observed}
use Rattle.rules.specs.Rules.Listing.{observation_line, trace_lines}
use Rattle.listing.specs.Lines.{observations_in}
use Rattle.listing.proofs.Texts.{trace-next, trace-over}
use Rattle.byte_writer.specs.Writers.{remains-whole, remains-nothing, remains-room, remains-next}
use Rattle.listing.proofs.put_trace.Goals as goal

pub loop-i-init : goal.loop-i-init
loop-i-init c =
    let all : c.args.count - 0 ≡ c.args.count = omega arith in
    rw all (remains-whole _ _)

pub put_observation-requires : goal.put_observation-requires
put_observation-requires c =
    let a = c.args in
    let ws = a.trace.now in
    let i = c.loop-i.i in
    let x = observation_line a.n (observed (get_or ws (2 * i) 0) (get_or ws (2 * i + 1) 0)) in
    let later = trace_lines a.n (observations_in (a.count - (i + 1)) (drop (2 * (i + 1)) ws)) in
    remains-room x later c.loop-i.invariant (trace-next a.n a.count ws i (omega arith) (omega arith)) c.requires

pub loop-i-preserved : goal.loop-i-preserved
loop-i-preserved c =
    let a = c.args in
    let ws = a.trace.now in
    let i = c.loop-i.i in
    let x = observation_line a.n (observed (get_or ws (2 * i) 0) (get_or ws (2 * i + 1) 0)) in
    let later = trace_lines a.n (observations_in (a.count - (i + 1)) (drop (2 * (i + 1)) ws)) in
    remains-next x later c.loop-i.invariant (trace-next a.n a.count ws i (omega arith) (omega arith)) c.put_observation.ensures

pub returns : goal.returns
returns c =
    let a = c.args in
    let i = c.loop-i.i in
    let over : i < a.count → length a.trace.now ≤ 2 * i + 1 = omega arith in
    remains-nothing (rw (trace-over a.n a.count a.trace.now i over) at c.loop-i.invariant)
