-- `sight_of` meets its contract, kind by kind: only a load, a store, a jump and a branch observe a set. Assumes nothing.
use native.Mathlib.Omega.{arith}
use Rattle.expression.proofs.Gathering.{sound-readable}
use Rattle.execution.proofs.Sights.{observes_nothing, observes_load, observes_store, observes_jump, observes_branch}
use borrow.Author.Rules.{rules}
use Rattle.execution.proofs.first.sight_of.Goals as goal

pub set_of-requires : goal.set_of-requires
set_of-requires c =
    let h = c.requires.2 in
    (sound-readable _ _ (rw c.in-Load.is at c.requires.0), omega arith)

pub set_of-requires-in-Store : goal.set_of-requires-in-Store
set_of-requires-in-Store c =
    let h = c.requires.2 in
    (sound-readable _ _ (rw c.in-Store.is at c.requires.0), omega arith)

pub set_of-requires-in-Jump : goal.set_of-requires-in-Jump
set_of-requires-in-Jump c =
    let h = c.requires.2 in
    (sound-readable _ _ (rw c.in-Jump.is at c.requires.0), omega arith)

pub load_set-requires : goal.load_set-requires
load_set-requires c =
    let h = c.requires.2 in
    let r = rw c.in-BranchZero.is at c.requires.1 in
    let e = c.register.ensures in
    omega arith

pub returns-in-Load : goal.returns-in-Load
returns-in-Load c =
    observes_load _ _ _ c.in-Load.is c.set_of.ensures (rw c.in-Load.is at c.requires.0) (search rules)

pub returns-in-Store : goal.returns-in-Store
returns-in-Store c =
    observes_store _ _ _ c.in-Store.is c.set_of-in-Store.ensures (rw c.in-Store.is at c.requires.0) (search rules)

pub returns-in-Jump : goal.returns-in-Jump
returns-in-Jump c =
    observes_jump _ _ _ c.in-Jump.is c.set_of-in-Jump.ensures (rw c.in-Jump.is at c.requires.0) (search rules)

pub returns-in-BranchZero : goal.returns-in-BranchZero
returns-in-BranchZero c =
    observes_branch _ _ c.in-BranchZero.is (rw c.in-BranchZero.is at c.requires.1) c.register.ensures
    c.load_set.ensures (search rules)

pub returns-in_default : goal.returns-in_default
returns-in_default c =
    let k = c.in_default in
    observes_nothing _ _ _ k.not-Load k.not-Store k.not-Jump k.not-BranchZero
