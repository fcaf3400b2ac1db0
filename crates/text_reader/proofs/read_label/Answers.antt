-- `read_label` meets its contract: a label is a name, at most n, and not the next one. Assumes nothing.
use Rattle.std.proofs.Common.{sym, drop}
use Rattle.rules.specs.Rules.Parts.{parts}
use Rattle.rules.specs.Rules.TextReading.{by_name, constant_named}
use Rattle.text_reader.specs.Fields.{label}
use Rattle.text_reader.proofs.Fields.{told-by}
use Rattle.text_reader.proofs.Parts.{name-read, name-unread, other-unread, number-some, number-none, unread-broken, label-over, label-next, label-read}
use Rattle.text_reader.proofs.read_label.Goals as goal

pub returns-in_default : goal.returns-in_default
returns-in_default c =
    let a = c.args in
    other-unread a.text.now a.p.at (label a.own.count a.own.label) constant_named c.part_at.result c.part_at.ensures c.in_default.not-Name

pub returns-in_err-label : goal.returns-in_err-label
returns-in_err-label c =
    let a = c.args in
    told-by (label a.own.count a.own.label) a.text.now (by_name constant_named (parts (drop a.p.at a.text.now))) a.out.now a.p.to a.out.now (sym c.from_residual.ensures)
    (name-unread a.text.now a.p.at (label a.own.count a.own.label) constant_named c.in-Name.ensures (number-none _ c.in_err-label.ensures))

pub returns-then-own-label : goal.returns-then-own-label
returns-then-own-label c =
    let a = c.args in
    unread-broken (name-read a.text.now a.p.at (label a.own.count a.own.label) constant_named c.in-Name.ensures (number-some _ c.in_ok-label.ensures))
    (label-over a.own.count a.own.label _ c.if-own-label.true)

pub returns-then-label-own : goal.returns-then-label-own
returns-then-label-own c =
    let a = c.args in
    unread-broken (name-read a.text.now a.p.at (label a.own.count a.own.label) constant_named c.in-Name.ensures (number-some _ c.in_ok-label.ensures))
    (label-next a.own.count a.own.label _ c.if-label-own.true)

pub returns : goal.returns
returns c =
    let a = c.args in
    label-read a.own.count a.own.label (name-read a.text.now a.p.at (label a.own.count a.own.label) constant_named c.in-Name.ensures (number-some _ c.in_ok-label.ensures))
    c.if-own-label.false c.if-label-own.false c.put_number-next.ensures
