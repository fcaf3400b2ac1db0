-- `advance` meets its contract: an instruction that reads nothing and a jump to a constant by the word, any other by its descriptor. Assumes nothing.
use mathlib.Core.Path.{refl, sym, ap, ◌∙◌}
use native.Mathlib.Omega.{arith}
use Prim.Native.Nat.{ℕ, ◌+◌}
use lib.ListN.{get_or}
use Rattle.descriptor.specs.Descriptors.{descriptor_in}
use Rattle.work.specs.Layout.{labels}
use Rattle.execution.specs.Running.{descriptor_at}
use Rattle.execution.proofs.Bare.{skip-bare, barrier_bare, bare-made}
use Rattle.execution.proofs.ConstantJump.{constant, jump-shown, jumped}
use Rattle.execution.proofs.Running.{fetched_valid}
use Rattle.execution.proofs.step.advance.Goals as goal

pub word_of-word-requires : goal.word_of-word-requires
word_of-word-requires c =
    let i = c.requires.inside in
    let m = c.requires.ready.steady.loaded.limits.count_most in
    let r = c.requires.ready.steady.fits.room in
    rw c.new-label.ensures (omega arith)

pub skip-requires : goal.skip-requires
skip-requires c =
    let i = c.requires.inside in
    let m = c.requires.ready.steady.loaded.limits.count_most in
    let s = c.requires.ready.counted.steps in
    (c.requires.ready.steady.fits.room, omega arith, omega arith)

pub returns-then-is_skip : goal.returns-then-is_skip
returns-then-is_skip c =
    let a = c.args in
    let w = a.work.now in
    let z = c.word_of-word.ensures ∙ ap (λ (i : ℕ). get_or w (labels + i) 0) c.new-label.ensures in
    let l = c.requires.ready.steady.loaded.limits.cells in
    let b = skip-bare (descriptor_at w a.c.control) (rw z at (sym c.is_skip.ensures ∙ c.if-is_skip.true)) in
    bare-made c.requires b.0 b.1
    (c.skip.ensures.carried a.trace.now a.t.cells
    (record {
      fits = c.requires.ready.steady.fits;
      costs = c.requires.ready.steady.loaded.costs;
      window = c.requires.window;
    })
    (omega arith))

pub skip-requires-then-is_bare : goal.skip-requires-then-is_bare
skip-requires-then-is_bare c =
    let i = c.requires.inside in
    let m = c.requires.ready.steady.loaded.limits.count_most in
    let s = c.requires.ready.counted.steps in
    (c.requires.ready.steady.fits.room, omega arith, omega arith)

pub returns-then-is_bare : goal.returns-then-is_bare
returns-then-is_bare c =
    let a = c.args in
    let w = a.work.now in
    let z = c.word_of-word.ensures ∙ ap (λ (i : ℕ). get_or w (labels + i) 0) c.new-label.ensures in
    let l = c.requires.ready.steady.loaded.limits.cells in
    let b = rw z at (sym c.is_bare.ensures ∙ c.if-is_bare.true) in
    bare-made c.requires b
    (barrier_bare (descriptor_at w a.c.control) b (rw z at (sym c.is_skip.ensures ∙ c.if-is_skip.false)))
    (c.skip-then-is_bare.ensures.carried a.trace.now a.t.cells
    (record {
      fits = c.requires.ready.steady.fits;
      costs = c.requires.ready.steady.loaded.costs;
      window = c.requires.window;
    })
    (omega arith))

pub instruction_of-i-requires : goal.instruction_of-i-requires
instruction_of-i-requires c =
    let a = c.args in
    let z = c.word_of-word.ensures ∙ ap (λ (i : ℕ). get_or a.work.now (labels + i) 0) c.new-label.ensures in
    fetched_valid a.p.now a.t a.mode a.work.now a.c.control c.requires.ready.steady c.requires.inside refl
    (c.descriptor_in-d.ensures ∙ ap descriptor_in z)

pub go_to-requires : goal.go_to-requires
go_to-requires c =
    let a = c.args in
    let z = c.word_of-word.ensures ∙ ap (λ (i : ℕ). get_or a.work.now (labels + i) 0) c.new-label.ensures in
    let s = c.requires.ready.counted.steps in (
      c.requires.ready.steady.fits.room,
      jump-shown c.requires _ (c.descriptor_in-d.ensures ∙ ap descriptor_in z) c.if-d-eq-JUMP_CONSTANT.true,
      omega arith,
    )

pub returns-then-d-eq-JUMP_CONSTANT : goal.returns-then-d-eq-JUMP_CONSTANT
returns-then-d-eq-JUMP_CONSTANT c =
    let a = c.args in
    let z = c.word_of-word.ensures ∙ ap (λ (i : ℕ). get_or a.work.now (labels + i) 0) c.new-label.ensures in
    let told = c.descriptor_in-d.ensures ∙ ap descriptor_in z in
    let l = c.requires.ready.steady.loaded.limits.cells in
    jumped c.requires _ told c.if-d-eq-JUMP_CONSTANT.true c.instruction_of-i.ensures c.jump_to-place.ensures
    (c.go_to.ensures.carried (constant c.requires _ told c.if-d-eq-JUMP_CONSTANT.true) a.t.cells (sym c.empty-nothing.ensures)
    (record {
      fits = c.requires.ready.steady.fits;
      costs = c.requires.ready.steady.loaded.costs;
      window = c.requires.window;
    })
    (omega arith))

pub advance_by-requires : goal.advance_by-requires
advance_by-requires c =
    let w = c.args.work.now in
    let z = c.word_of-word.ensures ∙ ap (λ (i : ℕ). get_or w (labels + i) 0) c.new-label.ensures in
    (c.requires, c.descriptor_in-d.ensures ∙ ap descriptor_in z)

pub returns : goal.returns
returns c =
    c.advance_by.ensures
