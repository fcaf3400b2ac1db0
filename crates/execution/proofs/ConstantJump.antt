-- The step of a jump to a constant: it is rule 3's, goes to the place that its word names, and rests on nothing.
-- Assumes nothing.
use mathlib.Core.Path.{◌≡◌, refl, sym, ap, ◌∙◌}
use mathlib.Core.List.{List, [], ◌∷◌}
use Prim.Native.Nat.{ℕ, ◌+◌, ◌*◌, ◌≤◌, min}
use native.Mathlib.Omega.{arith}
use lib.ListN.{length}
use Rattle.location.specs.Sets.{empty}
use Rattle.location.specs.SetLaws.{subset-empty}
use Rattle.rules.specs.declared.Tagged.{Tagged}
use Rattle.rules.specs.declared.Trailer.{Trailer}
use Rattle.rules.specs.Rules.Expressions.{const, tagged, pushed, eval_on, top, eval}
use Rattle.rules.specs.Rules.Instructions.{jmp}
use Rattle.rules.specs.Rules.JobFile.{little}
use Rattle.rules.specs.Rules.Plain.{State, Code, end_place, go_effect, exec}
use Rattle.rules.specs.Rules.Mispredicting.{ordinary}
use Rattle.instruction.specs.declared.Instruction.{Instruction}
use Rattle.instruction.specs.Meaning.{meaning}
use Rattle.descriptor.specs.declared.Descriptor.{Descriptor}
use Rattle.descriptor.specs.Descriptors.{shape_jump_constant, shape_branch, instruction_in}
use Rattle.descriptor.specs.Shapes.{ConstantJump, constant-jump}
use Rattle.stepping.specs.Progress.{Standing}
use Rattle.stepping.specs.Steps.{CarriedOut}
use Rattle.execution.specs.declared.Mode.{Mode}
use Rattle.execution.specs.Running.{descriptor_at, code_at, Performed, Advancing, NextTried}
use Rattle.execution.proofs.Effects.{carrying}
use Rattle.execution.proofs.Machine.{still_going}
use Rattle.execution.proofs.Running.{fetched_same, other-room}
use Rattle.execution.proofs.RuleThree.{described-valid, opens_none, tried-by}

-- its effect, at the end that a program has
effect : (k to : ℕ) (code : Code) (σ : State) (place : ℕ) → to ≡ min k (end_place code)
    → go_effect σ to (tagged k empty) ≡ exec code σ place (jmp (const k ∷ []))
unfolding exec eval eval_on pushed top
effect k to code σ place e = ap (λ (q : ℕ). go_effect σ q (tagged k empty)) e

module _ {p : List ℕ} {t : Trailer} {mode : Mode} {x : Standing} (a : Advancing p t mode x) (d : Descriptor)
    (told : d ≡ descriptor_at x.work x.progress.control) (s : d.shape ≡ shape_jump_constant) where
  -- the constant, as a word
  abbrev pub constant : Tagged
  constant = tagged (little p (d.at + 3) 8) empty

  jump : ConstantJump p d
  jump = constant-jump (described-valid a d told) s

  other : d.shape ≡ shape_branch → ⊥
  other z = omega arith

  -- there is room for what it shows
  pub jump-shown : 2 * (x.progress.observations + 1) ≤ length x.trace
  unfolding ordinary exec
  jump-shown =
      let w = x.work in
      let c = x.progress.control in
      let same = fetched_same p t mode w c a.ready.steady a.inside refl told in
      other-room p t mode w c (still_going a.inside a.window) (sym jump.jumps ∙ same) x.progress.observations (length x.trace) a.room
      (rw jump.jumps at (opens_none a d told other)) (code_at p t x)

  module _ {y : Standing} {i : Instruction} {to : ℕ} (e : meaning p i ≡ instruction_in p d) (place : to ≡ min d.extra t.count)
      (h : CarriedOut t.cells i (λ code σ. go_effect σ to constant) x y) where
    performed : Performed p t i x y
    performed =
        let most = a.ready.steady.loaded.limits.count_most in
        let l = place ∙ jump.place t.count (omega arith) in
        let m = e ∙ jump.jumps in
        carrying i (λ code σ. go_effect σ to constant) h (λ code. refl) (λ code. subset-empty x.progress.full)
        (λ code el. rw m (effect constant.value to code _ x.progress.control.place (l ∙ ap (min constant.value) (sym el))))

    pub jumped : NextTried p t mode x y
    jumped = tried-by a d told other e performed
