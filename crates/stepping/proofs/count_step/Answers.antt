-- `count_step` meets its contract. Assumes nothing.
use Prim.Native.Nat.{◌+◌}
use Rattle.stepping.proofs.count_step.Goals as goal

pub returns : goal.returns
returns c =
    let a = c.args in
    λ i. record {
      control = a.control;
      observations = a.c.observations + a.observations;
      steps = a.c.steps + 1;
      full = c.union.ensures i;
      plain = c.gather_plain.ensures i;
    }
