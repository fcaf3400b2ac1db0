-- `lay_out` meets its contract: the copy, then each store. Assumes nothing.
use mathlib.Core.Path.{refl, sym, ap, ◌∙◌}
use mathlib.Core.List.{List, ◌++◌}
use Prim.Native.Nat.{ℕ}
use native.Mathlib.Omega.{arith}
use lib.ListN.{length, length-set, drop}
use lib.Seq.{take-length}
use Rattle.cases.specs.Jobs.{stores}
use Rattle.cases.proofs.Laws.{laid_out_lem}
use borrow.Author.Rules.{rules}
use Rattle.cases.proofs.lay_out.Goals as goal

pub bounds-job-s-2 : goal.bounds-job-s-2
bounds-job-s-2 c = simp length-set (omega arith)

pub bounds-job-s-3 : goal.bounds-job-s-3
bounds-job-s-3 c = simp length-set (omega arith)

pub bounds-job-q : goal.bounds-job-q
bounds-job-q c = simp length-set (omega arith)

pub bounds-job-q-2 : goal.bounds-job-q-2
bounds-job-q-2 c = simp length-set (omega arith)

pub bounds-job-q-3 : goal.bounds-job-q-3
bounds-job-q-3 c = simp length-set (omega arith)

pub bounds-job-q-4 : goal.bounds-job-q-4
bounds-job-q-4 c = simp length-set (omega arith)

pub bounds-job-q-5 : goal.bounds-job-q-5
bounds-job-q-5 c = simp length-set (omega arith)

pub bounds-job-q-6 : goal.bounds-job-q-6
bounds-job-q-6 c = simp length-set (omega arith)

pub bounds-job-q-7 : goal.bounds-job-q-7
bounds-job-q-7 c = simp length-set (omega arith)

pub bounds-job-q-8 : goal.bounds-job-q-8
bounds-job-q-8 c = simp length-set (omega arith)

pub shape_of-job : goal.shape_of-job
shape_of-job c = simp length-set (search rules)

pub returns : goal.returns
unfolding stores
returns c =
    let a = c.args in
    laid_out_lem a.program.now a.job.now a.n.count a.n.cells a.n.r0 a.n.r1 a.n.window a.n.budget refl
    (ap (λ (p : List ℕ). p ++ drop (length a.program.now) a.job.now) (c.copy_from_slice.ensures.after ∙ sym (take-length a.program.now)))
