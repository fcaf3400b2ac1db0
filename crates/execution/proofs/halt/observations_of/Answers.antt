-- `observations_of` meets its contract, kind by kind. Assumes nothing.
use Rattle.execution.specs.declared.Mode.TheVariants as modes
use Rattle.std.proofs.Common.{inl, inr}
use Rattle.execution.proofs.Machine.{observed-kind, observed_none}
use Rattle.execution.proofs.halt.observations_of.Goals as goal

pub returns-in-Plain : goal.returns-in-Plain
returns-in-Plain c =
    rw (c.in-BranchZero.is, c.in-Plain.is) (λ p code M. observed-kind modes.Plain _ code M)

pub returns-in-Mispredicting : goal.returns-in-Mispredicting
returns-in-Mispredicting c =
    rw (c.in-BranchZero.is, c.in-Mispredicting.is) (λ p code M. observed-kind modes.Mispredicting _ code M)

-- a load, a store or a jump
pub returns-in-Load : goal.returns-in-Load
returns-in-Load c =
    elim c.in-Load.is [
      | inl h ↦ rw h.2 (λ p code M. observed-kind c.args.mode _ code M)
      | inr other ↦ elim other [
        | inl h ↦ rw h.2 (λ p code M. observed-kind c.args.mode _ code M)
        | inr h ↦ rw h.1 (λ p code M. observed-kind c.args.mode _ code M)
      ]
    ]

pub returns-in_default : goal.returns-in_default
returns-in_default c =
    let k = c.in_default in
    observed_none _ _ k.not-Load k.not-Store k.not-Jump k.not-BranchZero
