-- `gather_unmade` meets its contract. Assumes nothing.
use Rattle.stepping.proofs.gather_unmade.Goals as goal

pub returns : goal.returns
returns c =
    let a = c.args in
    λ i. record {
      control = a.c.control;
      observations = a.c.observations;
      steps = a.c.steps;
      full = c.union.ensures i;
      plain = c.gather_plain.ensures i;
    }
