-- `put_firsts` meets its contract. The invariant: what is left of the locations ends where all of them end. Assumes nothing.
use mathlib.Core.Path.{◌≡◌}
use Prim.Native.Nat.{◌+◌, ◌-◌}
use native.Mathlib.Omega.{arith}
use lib.ListN.{get_or}
use Rattle.location.specs.Sets.{limit}
use Rattle.rules.specs.Rules.Firsts.{no_report}
use Rattle.rules.specs.Rules.Listing.{first_lines}
use Rattle.listing.specs.Lines.{report_text}
use Rattle.listing.proofs.Texts.{reports-next}
use Rattle.byte_writer.specs.Writers.{remains-whole, remains-nothing, remains-room, remains-next}
use Rattle.listing.proofs.put_firsts.Goals as goal

pub loop-l-init : goal.loop-l-init
loop-l-init c = remains-whole _ _

pub put_report-requires : goal.put_report-requires
put_report-requires c =
    let s = c.args.s in
    let xs = c.args.firsts.now in
    let l = c.loop-l.l in
    remains-room (report_text s l (get_or xs l no_report)) (first_lines s xs (l + 1) (limit - (l + 1))) c.loop-l.invariant
    (reports-next s xs l c.loop-l-test.true) c.requires

pub loop-l-preserved : goal.loop-l-preserved
loop-l-preserved c =
    let s = c.args.s in
    let xs = c.args.firsts.now in
    let l = c.loop-l.l in
    remains-next (report_text s l (get_or xs l no_report)) (first_lines s xs (l + 1) (limit - (l + 1))) c.loop-l.invariant
    (reports-next s xs l c.loop-l-test.true) c.put_report.ensures

pub returns : goal.returns
unfolding first_lines
returns c =
    let none : limit - c.loop-l.l ≡ 0 = omega arith in
    remains-nothing (rw none at c.loop-l.invariant)
