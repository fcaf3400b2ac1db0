-- `read_branch` meets its contract: a register, then a label. Assumes nothing.
use Rattle.std.proofs.Common.{sym, drop, arith}
use Rattle.rules.specs.Rules.Parts.{parts}
use Rattle.rules.specs.Rules.TextReading.{by_name, register_named, constant_named}
use Rattle.text_reader.specs.Fields.{both, register, label, and_then}
use Rattle.text_reader.proofs.Fields.{told-by, first-unread, both_told}
use Rattle.text_reader.proofs.read_branch.Goals as goal

pub read_label-requires : goal.read_label-requires
read_label-requires c = omega (arith, c.in_ok-p.ensures.size)

pub returns-in_err-p : goal.returns-in_err-p
returns-in_err-p c =
    let a = c.args in
    let ps = parts (drop a.p.at a.text.now) in
    told-by (both register (label a.own.count a.own.label)) a.text.now (and_then (by_name register_named) (by_name constant_named) ps) a.out.now a.p.to c.read_register.new.out (sym c.from_residual.ensures)
    (first-unread register (label a.own.count a.own.label) (by_name register_named) (by_name constant_named) a.text.now ps c.in_err-p.ensures)

pub returns : goal.returns
returns c =
    let a = c.args in
    let s = c.read_label in
    both_told register (label a.own.count a.own.label) (by_name register_named) (by_name constant_named) a.text.now (parts (drop a.p.at a.text.now)) c.in_ok-p.ensures s.new.out s.result s.ensures
