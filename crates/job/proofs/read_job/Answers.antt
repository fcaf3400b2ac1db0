-- `job::read_job` meets its contract, by its tests in their order; what the limits and offsets say makes each later offset lie in the file.
-- Assumes nothing.
use mathlib.Core.Path.{sym, ◌∙◌}
use native.Mathlib.Omega.{arith}
use Rattle.rules.specs.Rules.JobFile.{parse, trailer}
use Rattle.rules.proofs.Theorems.JobLaws.{limits-hold, offsets-state, offsets_list}
use Rattle.job.proofs.Laws.{sized_true, sized_false}
use Rattle.job.proofs.read_job.Goals as goal

pub returns-then-len-lt-TRAILER_SIZE : goal.returns-then-len-lt-TRAILER_SIZE
unfolding parse
returns-then-len-lt-TRAILER_SIZE c = rw (sized_false c.then-len-lt-TRAILER_SIZE.either)

pub returns-then-not-limits_hold : goal.returns-then-not-limits_hold
unfolding parse trailer
returns-then-not-limits_hold c =
    let z = sized_true c.if-len-lt-TRAILER_SIZE.false c.if-len-gt-MAX_BYTES.false in
    rw (z, ← c.trailer_at-t.ensures, ← c.limits_hold.ensures, c.if-not-limits_hold.true)

pub offsets_hold-requires : goal.offsets_hold-requires
offsets_hold-requires c = (limits-hold _ (sym c.limits_hold.ensures ∙ c.if-not-limits_hold.false)).cells

pub returns-then-not-offsets_hold : goal.returns-then-not-offsets_hold
unfolding parse trailer
returns-then-not-offsets_hold c =
    let z = sized_true c.if-len-lt-TRAILER_SIZE.false c.if-len-gt-MAX_BYTES.false in
    rw (z, ← c.trailer_at-t.ensures, ← c.limits_hold.ensures, c.if-not-limits_hold.false, ← c.offsets_hold.ensures, c.if-not-offsets_hold.true)

pub check_parts-requires : goal.check_parts-requires
check_parts-requires c =
    let w = limits-hold _ (sym c.limits_hold.ensures ∙ c.if-not-limits_hold.false) in
    let p = sym c.offsets_hold.ensures ∙ c.if-not-offsets_hold.false in
    let s = offsets-state _ _ p in
    let l = offsets_list _ _ p in
    (w.cells, omega arith, omega arith)

pub returns : goal.returns
unfolding parse trailer
returns c =
    let z = sized_true c.if-len-lt-TRAILER_SIZE.false c.if-len-gt-MAX_BYTES.false in
    rw (z, ← c.trailer_at-t.ensures, ← c.limits_hold.ensures, c.if-not-limits_hold.false, ← c.offsets_hold.ensures, c.if-not-offsets_hold.false)
    c.check_parts.ensures
