-- `job::public_list` meets its contract: four words of eight bytes. Assumes nothing.
use mathlib.Core.Path.{◌≡◌}
use Prim.Native.Nat.{◌+◌}
use native.Mathlib.Omega.{arith}
use Rattle.rules.specs.Rules.JobFile.{public_of, words_at}
use Rattle.job.proofs.public_list.Goals as goal

pub returns : goal.returns
unfolding public_of words_at
returns c =
    let a = c.args in
    let e : a.t.list + 8 + 8 ≡ a.t.list + 16 = omega arith in
    let f : a.t.list + 16 + 8 ≡ a.t.list + 24 = omega arith in
    rw (c.word-a.ensures, c.word-b.ensures, c.word-c.ensures, c.word-d.ensures, e, f)
