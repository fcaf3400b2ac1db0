-- `write_answer` meets its contract. Its lines fit a number of 64 bits, since the trace's words do in memory. Assumes nothing.
use native.Mathlib.Omega.{arith}
use Rattle.rules.specs.Rules.Demands.{observation_count}
use Rattle.listing.specs.Lines.{observations_in, printed}
use Rattle.listing.specs.Lengths.{observations-length, answer-bound}
use Rattle.listing.proofs.write_answer.Goals as goal

pub put_answer-requires : goal.put_answer-requires
unfolding printed
put_answer-requires c =
    let a = c.args in
    let os = observations_in (observation_count a.answer.outcome) a.trace.now in
    omega (arith, answer-bound a.n os a.answer, observations-length (observation_count a.answer.outcome) a.trace.now, c.well_formed)
