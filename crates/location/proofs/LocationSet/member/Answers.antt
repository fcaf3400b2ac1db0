-- `LocationSet::member` meets its contract: a number past the last word finds the word 0. Assumes nothing.
use Rattle.location.specs.Sets.{member, has, bit}
use mathlib.Core.Path.{◌≡◌, sym, ◌∙◌}
use native.Mathlib.Omega.{arith}
use lib.ListN.{length}
use Rattle.location.specs.SetLaws.{has_out}
use borrow.Author.Rules.{rules}
use borrow.Author.Tests.{le-ltb}
use Rattle.location.proofs.LocationSet.member.Goals as goal

pub returns-then-l-lt-LIMIT : goal.returns-then-l-lt-LIMIT
unfolding member has bit
returns-then-l-lt-LIMIT c = search rules

pub returns-else-l-lt-LIMIT : goal.returns-else-l-lt-LIMIT
unfolding member
returns-else-l-lt-LIMIT c =
    let h : length c.args.self.words ≡ 4 = search rules in
    le-ltb _ _ c.if-l-lt-LIMIT.false ∙ sym (has_out c.args.self.words c.args.l.0 (omega arith))
