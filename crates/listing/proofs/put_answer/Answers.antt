-- `put_answer` meets its contract, for each outcome. Assumes nothing.
use mathlib.Core.Path.{ap}
use native.Mathlib.Omega.{arith}
use lib.ListN.{length, length-append}
use Rattle.rules.specs.Rules.Answers.{text}
use Rattle.byte_writer.specs.Writers.{writes-append}
use Rattle.listing.proofs.Texts.{printed_refusal, printed-run}
use Rattle.listing.proofs.put_answer.Goals as goal

pub put_number_line-requires : goal.put_number_line-requires
unfolding text
put_number_line-requires c =
    let a = c.args in
    rw (printed_refusal a.n a.answer a.trace.now c.in-Err.refusal c.in-Err.is, ← c.from.ensures) at c.requires

pub returns-in-Err : goal.returns-in-Err
unfolding text
returns-in-Err c =
    let a = c.args in
    rw (printed_refusal a.n a.answer a.trace.now c.in-Err.refusal c.in-Err.is, ← c.from.ensures) c.put_number_line.ensures

pub put_trace-requires : goal.put_trace-requires
put_trace-requires c =
    let a = c.args in
    let r = c.in-Ok.ran in
    omega (arith, simp length-append at (ap length (printed-run a.n a.answer a.trace.now r.counts r.verdict c.in-Ok.is)))

pub put_summary-requires : goal.put_summary-requires
put_summary-requires c =
    let a = c.args in
    let r = c.in-Ok.ran in
    omega (arith, simp length-append at (ap length (printed-run a.n a.answer a.trace.now r.counts r.verdict c.in-Ok.is)))

pub put_firsts-requires : goal.put_firsts-requires
put_firsts-requires c =
    let a = c.args in
    let r = c.in-Ok.ran in
    omega (arith, simp length-append at (ap length (printed-run a.n a.answer a.trace.now r.counts r.verdict c.in-Ok.is)))

pub returns-in-Ok : goal.returns-in-Ok
returns-in-Ok c =
    let a = c.args in
    let r = c.in-Ok.ran in
    rw (printed-run a.n a.answer a.trace.now r.counts r.verdict c.in-Ok.is)
    (writes-append (writes-append c.put_trace.ensures c.put_summary.ensures) c.put_firsts.ensures)
