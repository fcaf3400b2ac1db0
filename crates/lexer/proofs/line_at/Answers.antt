-- `lexer::line_at` meets its contract: the spaces before a line's first part do not change where the line ends.
-- Assumes nothing.
use Rattle.std.proofs.Common.{◌≡◌, subst, sym, ◌∙◌, ap}
use Rattle.lexer.specs.declared.Place.{Place}
use Rattle.lexer.specs.declared.LineAt.{LineAt}
use Rattle.lexer.specs.Places.{Passable, blanks_passed, line_passed}
use Rattle.lexer.specs.Lines.{line-past_blanks, start-within}
use Rattle.lexer.proofs.line_at.Goals as goal

pub pass_line-requires : goal.pass_line-requires
pass_line-requires c =
    let a = c.args in
    let asked : Passable a.text.now (blanks_passed a.text.now a.from) = (start-within a.text.now a.from c.requires.0, c.requires.1) in
    let P : Place → Type 0 = Passable a.text.now in subst P (sym c.pass_blanks.ensures) asked

pub returns : goal.returns
returns c =
    let a = c.args in
    let made : Place → Place → LineAt = λ p q. record { start = p.at; next = q } in
    let e : c.pass_line.new.place ≡ line_passed a.text.now a.from =
    c.pass_line.ensures ∙ ap (line_passed a.text.now) c.pass_blanks.ensures ∙ line-past_blanks a.text.now a.from in
    λ i. made (c.pass_blanks.ensures i) (e i)
