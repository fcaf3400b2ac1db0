-- `read_operand` and `read_expression` meet their contracts: they call each other, and what is left of the text falls.
-- Assumes nothing.
use Rattle.std.proofs.Common.{drop, arith}
use Rattle.rules.specs.Rules.Parts.{parts}
use Rattle.rules.specs.Rules.TextReading.{expression, operand}
use Rattle.operand.proofs.Laws.{tokens-room, moved-room, first-unread, no_operator}
use Rattle.operand.proofs.Cycle.{refused, levels_unread, other-unread, opening-told, simple_told, sign-refused, sign-told, second-refused, bracket_told}
use Rattle.operand.proofs.+read_expression_read_operand.Goals as goal

-- ---- `read_expression`
pub read_expression-returns-in_err-left : goal.read_expression-returns-in_err-left
read_expression-returns-in_err-left t c =
    let a = c.args in
    let ps = parts (drop a.p.at a.text.now) in
    refused a.text.now (expression (operand a.levels) ps) a.p a.out.now c.read_operand.new.out c.from_residual.ensures
    (first-unread (operand a.levels) ps c.in_err-left.ensures)

pub read_expression-returns-in_err-operator : goal.read_expression-returns-in_err-operator
read_expression-returns-in_err-operator t c =
    let a = c.args in
    let ps = parts (drop a.p.at a.text.now) in
    refused a.text.now (expression (operand a.levels) ps) a.p a.out.now c.read_operand.new.out c.from_residual-in_err-operator.ensures
    (no_operator (operand a.levels) ps c.in_ok-left.ensures.read a.p.count c.in_err-operator.ensures)

pub read_expression-read_operand-requires-2 : goal.read_expression-read_operand-requires-2
read_expression-read_operand-requires-2 t c =
    let i = c.in_ok-left.ensures in
    let o = c.in_ok-operator.ensures in
    (omega (arith, i.on, i.within, o.on, o.within), moved-room _ (tokens-room c.requires i.tokens))

pub read_expression-returns-in_err-right : goal.read_expression-returns-in_err-right
read_expression-returns-in_err-right t c =
    let a = c.args in
    refused a.text.now (expression (operand a.levels) (parts (drop a.p.at a.text.now))) a.p a.out.now c.read_operand-2.new.out
    c.from_residual-in_err-right.ensures
    (second-refused a.text.now a.p a.levels a.out.now c.read_operand.new.out c.in_ok-left.ensures c.in_ok-operator.ensures c.in_err-right.ensures)

pub read_expression-close-requires : goal.read_expression-close-requires
read_expression-close-requires t c =
    tokens-room (moved-room _ (tokens-room c.requires c.in_ok-left.ensures.tokens)) c.in_ok-right.ensures.tokens

pub read_expression-returns : goal.read_expression-returns
read_expression-returns t c =
    let a = c.args in
    bracket_told a.text.now a.p a.levels a.out.now c.read_operand.new.out c.in_ok-left.ensures c.in_ok-operator.ensures c.read_operand-2.new.out
    c.in_ok-right.ensures c.close.new.out c.close.result c.close.ensures

-- ---- `read_operand`
pub read_operand-returns-then-levels-eq0 : goal.read_operand-returns-then-levels-eq0
read_operand-returns-then-levels-eq0 t c =
    let a = c.args in levels_unread a.text.now a.p a.levels c.if-levels-eq0.true

pub read_operand-returns-in_err-signed-in-Some : goal.read_operand-returns-in_err-signed-in-Some
read_operand-returns-in_err-signed-in-Some t c =
    let a = c.args in
    refused a.text.now (operand a.levels (parts (drop a.p.at a.text.now))) a.p a.out.now c.read_operand.new.out c.from_residual.ensures
    (sign-refused a.text.now a.p a.levels c.if-levels-eq0.false c.in-Name.ensures c.in-Some.ensures c.in_err-signed-in-Some.ensures)

pub read_operand-put_token-requires : goal.read_operand-put_token-requires
read_operand-put_token-requires t c = tokens-room (moved-room _ c.requires) c.in_ok-signed-in-Some.ensures.tokens

pub read_operand-returns-in_ok-signed-in-Some : goal.read_operand-returns-in_ok-signed-in-Some
read_operand-returns-in_ok-signed-in-Some t c =
    let a = c.args in
    sign-told a.text.now a.p a.levels c.if-levels-eq0.false c.in-Name.ensures c.in-Some.ensures a.out.now c.read_operand.new.out
    c.in_ok-signed-in-Some.ensures c.put_token.new.out c.put_token.result c.put_token.ensures

pub read_operand-returns-in-None : goal.read_operand-returns-in-None
read_operand-returns-in-None t c =
    let a = c.args in
    simple_told a.text.now a.p a.levels c.if-levels-eq0.false c.in-Name.ensures c.in-None.ensures a.out.now c.read_simple.new.out
    c.read_simple.result c.read_simple.ensures

pub read_operand-returns-in-Opening : goal.read_operand-returns-in-Opening
read_operand-returns-in-Opening t c =
    let a = c.args in
    opening-told a.text.now a.p a.levels c.if-levels-eq0.false c.in-Opening.ensures a.out.now c.read_expression.new.out
    c.read_expression.result c.read_expression.ensures

pub read_operand-returns-in_default : goal.read_operand-returns-in_default
read_operand-returns-in_default t c =
    let a = c.args in
    other-unread a.text.now a.p a.levels c.if-levels-eq0.false c.part_at.result c.part_at.ensures c.in_default.not-Name c.in_default.not-Opening
