-- `job::check_parts` meets its contract, by the answer on the program and the test of the public list. Assumes nothing.
use mathlib.Core.Path.{sym, ◌∙◌}
use Rattle.std.proofs.lemmas.Result.{err_from_is_err_and}
use Rattle.rules.specs.Rules.JobFile.{listed, program_of}
use Rattle.job.proofs.Laws.{finish-next, finish-refused}
use Rattle.job.proofs.check_parts.Goals as goal

pub returns-in_err-check_program : goal.returns-in_err-check_program
unfolding program_of
returns-in_err-check_program c =
    let a = c.args in
    let h = sym c.in_err-check_program.was ∙ c.check_program.ensures in
    let r = err_from_is_err_and c.from_residual.result c.from_residual.ensures.1 in
    rw (r.1, r.2) (sym (finish-refused a.job.now a.t (program_of a.job.now a.t) _ h))

pub returns-then-not-no_cell_from : goal.returns-then-not-no_cell_from
unfolding listed program_of
returns-then-not-no_cell_from c =
    let a = c.args in
    let h = sym c.in_ok-check_program.was ∙ c.check_program.ensures in
    let e = finish-next a.job.now a.t (program_of a.job.now a.t) _ h in
    sym (rw (← c.public_list-public.ensures, ← c.no_cell_from.ensures, c.if-not-no_cell_from.true) at e)

pub returns : goal.returns
unfolding listed program_of
returns c =
    let a = c.args in
    let h = sym c.in_ok-check_program.was ∙ c.check_program.ensures in
    let e = finish-next a.job.now a.t (program_of a.job.now a.t) _ h in
    sym (rw (← c.public_list-public.ensures, ← c.no_cell_from.ensures, c.if-not-no_cell_from.false) at e)
