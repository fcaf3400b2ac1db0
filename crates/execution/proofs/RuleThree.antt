-- The step of an instruction that is no branch, in either run: once rule 3 was carried out for it, the next step was tried.
-- Assumes nothing.
use mathlib.Core.Path.{◌≡◌, refl, ap, ◌∙◌}
use mathlib.Core.List.{List}
use Prim.Native.Nat.{ℕ}
use Rattle.rules.specs.declared.Trailer.{Trailer}
use Rattle.rules.specs.Rules.JobFile.{locations}
use Rattle.rules.specs.Rules.Mispredicting.{ordinary}
use Rattle.instruction.specs.declared.Instruction.{Instruction}
use Rattle.instruction.specs.Meaning.{meaning}
use Rattle.descriptor.specs.declared.Descriptor.{Descriptor}
use Rattle.descriptor.specs.Descriptors.{shape_branch, instruction_in, Valid}
use Rattle.descriptor.specs.Reading.{other-shaped}
use Rattle.stepping.specs.Progress.{Standing, machine_at}
use Rattle.execution.specs.declared.Mode.{Mode}
use Rattle.std.specs.Prelude.{None}
use Rattle.execution.specs.Next.{Opens}
use Rattle.execution.specs.Running.{descriptor_at, code_at, Performed, Advancing, NextTried}
use Rattle.execution.proofs.Machine.{still_going, never_opens}
use Rattle.execution.proofs.Running.{tried_as, code_of, fetched_valid, fetched_same, other_step}

module _ {p : List ℕ} {t : Trailer} {mode : Mode} {x : Standing} (a : Advancing p t mode x) (d : Descriptor)
    (told : d ≡ descriptor_at x.work x.progress.control) where
  pub described-valid : Valid p d
  described-valid = fetched_valid p t mode x.work x.progress.control a.ready.steady a.inside refl told

  module _ (other : d.shape ≡ shape_branch → ⊥) where
    pub opens_none : Opens mode (instruction_in p d) None
    opens_none = never_opens mode (instruction_in p d) (other-shaped described-valid other)

    pub tried-by : {y : Standing} {i : Instruction} → meaning p i ≡ instruction_in p d → Performed p t i x y → NextTried p t mode x y
    tried-by e performed =
        let w = x.work in
        let c = x.progress.control in
        let same = fetched_same p t mode w c a.ready.steady a.inside refl told in
        let step = other_step p t mode w c (still_going a.inside a.window) same opens_none in
        let f = ap (ordinary (code_at p t x) (machine_at x (locations t))) e in
        tried_as (f ∙ step) (performed.tried (code_at p t x) (code_of p t w))
