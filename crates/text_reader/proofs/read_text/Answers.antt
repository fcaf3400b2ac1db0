-- `read_text` meets its contract: the first reading tests and counts, the second one writes. Assumes nothing.
use mathlib.Core.Path.{refl, sym, ◌∙◌}
use Rattle.text_reader.proofs.Answers.{lent_nothing, empty-text, faulty-text, short_area, text-read}
use Rattle.text_reader.proofs.read_text.Goals as goal

pub returns-then-n-eq0 : goal.returns-then-n-eq0
returns-then-n-eq0 c =
    let a = c.args in
    empty-text a.text.now c.count_lines-counted.ensures a.out.now refl c.if-n-eq0.true

pub returns-then-is_some : goal.returns-then-is_some
returns-then-is_some c =
    let a = c.args in
    let r = c.read_lines-first in
    faulty-text a.text.now c.count_lines-counted.ensures a.out.now (lent_nothing r.new.out a.out.now r.auto.out)
    r.ensures (sym c.is_some.ensures ∙ c.if-is_some.true)

pub returns-then-out-first : goal.returns-then-out-first
returns-then-out-first c =
    let a = c.args in
    let r = c.read_lines-first in
    short_area a.text.now c.count_lines-counted.ensures a.out.now (lent_nothing r.new.out a.out.now r.auto.out)
    r.ensures c.if-n-eq0.false (sym c.is_some.ensures ∙ c.if-is_some.false)
    c.if-out-first.true

pub returns : goal.returns
returns c =
    let a = c.args in
    let r = c.read_lines-first in
    text-read a.text.now c.count_lines-counted.ensures a.out.now (lent_nothing r.new.out a.out.now r.auto.out)
    r.ensures c.if-n-eq0.false (sym c.is_some.ensures ∙ c.if-is_some.false)
    c.if-out-first.false c.read_lines-second.ensures
