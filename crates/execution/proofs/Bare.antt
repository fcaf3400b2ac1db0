-- The step of an instruction that reads nothing: it is rule 3's, and changes and shows nothing.
-- Assumes nothing.
use mathlib.Core.Path.{◌≡◌, refl, sym, ap, ◌∙◌}
use mathlib.Core.Bool.{Bool, true, false, ◌&&◌, cond}
use mathlib.Core.List.{List}
use Prim.Native.Nat.{ℕ}
use native.Mathlib.Omega.{arith}
use lib.Dec.{eqb}
use borrow.Author.Tests.{eqb-true}
use Rattle.location.specs.SetLaws.{and_left, and_right, subset-empty}
use Rattle.rules.specs.declared.Trailer.{Trailer}
use Rattle.rules.specs.Rules.Instructions.{skip, spbarr}
use Rattle.rules.specs.Rules.Plain.{State, Code, silent, exec}
use Rattle.instruction.specs.declared.Instruction.{Instruction}
use Rattle.instruction.specs.Meaning.{meaning}
use Rattle.descriptor.specs.declared.Descriptor.{Descriptor}
use Rattle.descriptor.specs.Descriptors.{bare, is_bare, is_skip}
use Rattle.descriptor.specs.Reading.{nothing-shaped}
use Rattle.stepping.specs.Progress.{Standing}
use Rattle.stepping.specs.Steps.{CarriedOut}
use Rattle.execution.specs.declared.Mode.{Mode}
use Rattle.execution.specs.Running.{descriptor_at, Performed, Advancing, NextTried}
use Rattle.execution.proofs.Effects.{carrying}
use Rattle.execution.proofs.RuleThree.{described-valid, tried-by}

-- the test for a skip
pub skip-bare : (d : Descriptor) → is_skip d ≡ true → (is_bare d ≡ true) × (skip ≡ bare d.first)
skip-bare d h =
    let z = eqb-true d.first 0 (and_right (is_bare d) (eqb d.first 0) h) in
    (and_left (is_bare d) (eqb d.first 0) h, rw z)

-- what reads nothing and is no skip is a barrier
pub barrier_bare : (d : Descriptor) → is_bare d ≡ true → is_skip d ≡ false → spbarr ≡ bare d.first
barrier_bare d b h = rw (sym (ap (λ (x : Bool). x && eqb d.first 0) b) ∙ h)

-- its effect is to go on
goes_on : (k : ℕ) (code : Code) (σ : State) (place : ℕ) → silent σ place ≡ exec code σ place (bare k)
unfolding exec
goes_on k code σ place = go (eqb k 0)
  where
    go : (b : Bool) → silent σ place ≡ exec code σ place (cond b skip spbarr)
    go true = refl
    go false = refl

module _ {p : List ℕ} {t : Trailer} {mode : Mode} {x y : Standing} (a : Advancing p t mode x) {i : Instruction} where
  performed : (k : ℕ) → meaning p i ≡ bare k → CarriedOut t.cells i (λ code σ. silent σ x.progress.control.place) x y → Performed p t i x y
  performed k e h =
      carrying i (λ code σ. silent σ x.progress.control.place) h (λ code. refl) (λ code. subset-empty x.progress.full)
      (λ code el. rw e (goes_on k code _ x.progress.control.place))

  pub bare-made : is_bare (descriptor_at x.work x.progress.control) ≡ true
      → meaning p i ≡ bare (descriptor_at x.work x.progress.control).first
      → CarriedOut t.cells i (λ code σ. silent σ x.progress.control.place) x y → NextTried p t mode x y
  bare-made b e h =
      let d = descriptor_at x.work x.progress.control in
      let z = eqb-true d.shape 0 b in
      tried-by a d refl (λ s. omega arith) (e ∙ sym (nothing-shaped (described-valid a d refl) z).0) (performed d.first e h)
