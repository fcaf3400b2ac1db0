-- `put_members` meets its contract. The invariant: what is left of the locations ends where all of them end. Assumes nothing.
use mathlib.Core.Path.{◌≡◌}
use Prim.Native.Nat.{◌+◌, ◌-◌}
use native.Mathlib.Omega.{arith}
use Rattle.location.specs.Sets.{limit}
use Rattle.rules.specs.Rules.Listing.{members}
use Rattle.listing.specs.Lines.{member_text}
use Rattle.listing.proofs.Texts.{members-next}
use Rattle.byte_writer.specs.Writers.{remains-whole, remains-nothing, remains-room, remains-next}
use Rattle.listing.proofs.put_members.Goals as goal

pub loop-l-init : goal.loop-l-init
loop-l-init c = remains-whole _ _

pub put_member-requires : goal.put_member-requires
put_member-requires c =
    let s = c.args.s in
    let l = c.loop-l.l in
    remains-room (member_text s l) (members s (l + 1) (limit - (l + 1))) c.loop-l.invariant (members-next s l c.loop-l-test.true) c.requires

pub loop-l-preserved : goal.loop-l-preserved
loop-l-preserved c =
    let s = c.args.s in
    let l = c.loop-l.l in
    remains-next (member_text s l) (members s (l + 1) (limit - (l + 1))) c.loop-l.invariant (members-next s l c.loop-l-test.true) c.put_member.ensures

pub returns : goal.returns
unfolding members
returns c =
    let none : limit - c.loop-l.l ≡ 0 = omega arith in
    remains-nothing (rw none at c.loop-l.invariant)
