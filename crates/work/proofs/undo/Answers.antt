-- `undo` meets its contract. The invariant: undoing what is left gives what undoing all gives at first, and the log is as it was. Assumes nothing.
use mathlib.Core.Path.{◌≡◌, refl, sym, ap, subst, ◌∙◌}
use mathlib.Core.List.{List}
use Prim.Native.Nat.{ℕ, ◌+◌, ◌-◌, ◌≤◌}
use native.Mathlib.Omega.{arith}
use lib.ListN.{drop}
use Rattle.work.specs.Layout.{operands, log_base}
use Rattle.work.specs.Words.{number_at, undone}
use Rattle.work.proofs.Laws.{undo_law}
use Rattle.work.proofs.Ranges.{numbers_same}
use Rattle.work.proofs.States.{drop-given}
use Rattle.work.proofs.undo.Goals as goal

-- a number in the log, of words that have the log as it was
number_still : (w w' : List ℕ) (k : ℕ) → drop log_base w' ≡ drop log_base w → number_at w k ≤ operands → number_at w' k ≤ operands
number_still w w' k d h = subst (λ (f : ℕ → ℕ). f k ≤ operands) (numbers_same w w' (sym d)) h

pub store-requires : goal.store-requires
store-requires c =
    let v = c.loop-k in
    let k = v.k - 1 in
    let n : number_at v.work k ≤ operands = number_still c.args.work.now v.work k v.invariant.1 (c.requires.by_index k (omega arith) (omega arith)) in
    omega (arith, c.requires.count_in_bounds)

pub loop-k-preserved : goal.loop-k-preserved
loop-k-preserved c =
    let a = c.args in
    let v = c.loop-k in
    let k = v.k - 1 in
    let s : k + 1 ≡ v.k = omega arith in
    let x = number_at v.work k in
    let n : x ≤ operands = number_still a.work.now v.work k v.invariant.1 (c.requires.by_index k (omega arith) (omega arith)) in
    let t = c.load_at-before in
    let g = c.store in
    let q = undo_law v.work g.new.work k a.mark x t.result (omega arith) refl t.ensures g.ensures in (
      q ∙ ap (λ (j : ℕ). undone v.work j (j - a.mark)) s ∙ v.invariant.0,
      ap (drop log_base) g.ensures ∙ drop-given x t.result v.work n ∙ v.invariant.1,
    )
