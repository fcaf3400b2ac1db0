-- `print_run` meets its contract: the run is the rules' call, and the lines are printed of its answer and trace. Assumes nothing.
use native.Mathlib.Omega.{arith}
use Rattle.printer.proofs.Laws.{prints, printed-bound}
use borrow.Author.Rules.{rules}
use Rattle.printer.proofs.print_run.Goals as goal

pub returns : goal.returns
returns c =
    let a = c.args in
    let x = c.run-answer.ensures.fixed c.fixed-costs.ensures in record {
      exact = prints a.job.now a.trace.now _ _ x (search rules) (search rules) c.instruction_count-n.ensures c.write_answer.ensures;
      bounded = omega (arith, printed-bound _ _ _ c.write_answer.ensures);
    }
