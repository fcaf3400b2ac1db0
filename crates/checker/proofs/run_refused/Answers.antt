-- `run_refused` meets its contract. Assumes nothing.
use Rattle.std.specs.Prelude.{Err}
use Rattle.rules.specs.Rules.Calls.{run_refused}
use Rattle.checker.proofs.run_refused.Goals as goal

pub returns : goal.returns
unfolding run_refused
returns c =
    let n = c.args.n in
    λ i. record {
      outcome = Err n;
      full = c.empty.ensures i;
      plain = c.empty-2.ensures i;
      firsts = c.nothing.ensures i;
    }
