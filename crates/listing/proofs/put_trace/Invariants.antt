-- `put_trace` meets its contract. The invariant: what is left of the trace ends where its lines end. Assumes nothing.
use Prim.Native.Nat.{◌-◌, ◌*◌}
use lib.ListN.{drop}
use Rattle.rules.specs.Rules.Listing.{trace_lines}
use Rattle.byte_writer.specs.Writers.{Remains}
use Rattle.listing.specs.Lines.{observations_in}
use Rattle.listing.proofs.put_trace.Given as goal

abbrev pub invariant-loop-i : goal.invariant-loop-i
invariant-loop-i l =
    Remains l.initial.writer (trace_lines l.n (observations_in l.count l.trace)) l.writer
    (trace_lines l.n (observations_in (l.count - l.i) (drop (2 * l.i) l.trace)))
