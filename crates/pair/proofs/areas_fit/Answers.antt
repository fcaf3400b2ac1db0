-- `pair::areas_fit` meets its contract: a working area that is long enough leaves the test to the trace areas. Assumes nothing.
use Rattle.pair.proofs.Laws.{work_short, traces_decide}
use Rattle.pair.proofs.areas_fit.Goals as goal

pub returns-then-work-ge-WORDS : goal.returns-then-work-ge-WORDS
returns-then-work-ge-WORDS c =
    let a = c.args in
    traces_decide a.first_trace.now a.second_trace.now a.work.now c.if-work-ge-WORDS.true

pub returns-else-work-ge-WORDS : goal.returns-else-work-ge-WORDS
returns-else-work-ge-WORDS c =
    let a = c.args in
    work_short a.first_trace.now a.second_trace.now a.work.now c.if-work-ge-WORDS.false
