-- `program::check_instruction` meets its contract: 4, then 5, then 6. Assumes nothing.
use mathlib.Core.Path.{◌≡◌}
use mathlib.Core.Bool.{true, false}
use Rattle.std.proofs.lemmas.Bool.{not-true, not-false}
use Rattle.std.proofs.lemmas.Result.{err_from_is_err_and}
use Rattle.rules.specs.Rules.JobFile.{instruction}
use Rattle.program.proofs.check_instruction.Goals as goal

pub returns-in_err-d : goal.returns-in_err-d
unfolding instruction
returns-in_err-d c =
    let r = err_from_is_err_and c.from_residual.result c.from_residual.ensures.1 in
    rw (r.1, r.2) (rw (← c.decode.ensures.0, c.in_err-d.was))

pub returns-then-not-d : goal.returns-then-not-d
unfolding instruction
returns-then-not-d c =
    let x = c.decode.ensures in
    let s : c.in_ok-d.d.sound ≡ false = not-true _ c.if-not-d.true in
    rw (← x.0, c.in_ok-d.was, ← (rw c.in_ok-d.was at x.1), s)

pub returns-then-not-branch_label_holds : goal.returns-then-not-branch_label_holds
unfolding instruction
returns-then-not-branch_label_holds c =
    let x = c.decode.ensures in
    let s : c.in_ok-d.d.sound ≡ true = not-false _ c.if-not-d.false in
    let b = c.branch_label_holds.ensures c.args.p.now in
    rw (← x.0, c.in_ok-d.was, ← (rw c.in_ok-d.was at x.1), s, ← b, c.if-not-branch_label_holds.true)

pub returns : goal.returns
unfolding instruction
returns c =
    let x = c.decode.ensures in
    let s : c.in_ok-d.d.sound ≡ true = not-false _ c.if-not-d.false in
    let b = c.branch_label_holds.ensures c.args.p.now in
    rw (← x.0, c.in_ok-d.was, ← (rw c.in_ok-d.was at x.1), s, ← b, c.if-not-branch_label_holds.false)
