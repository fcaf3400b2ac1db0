-- `read_simple` meets its contract: a register, else a constant, else nothing. Assumes nothing.
use Rattle.operand.proofs.Found.{register-told, constant-told, simple_unread}
use Rattle.operand.proofs.read_simple.Goals as goal

pub returns-in-Some : goal.returns-in-Some
returns-in-Some c =
    let a = c.args in
    register-told a.text.now a.p a.start a.end c.requires.0 a.out.now c.put_token.new.out c.put_token.result c.in-Some.ensures
    c.put_token.ensures

pub returns-in_err-constant_named : goal.returns-in_err-constant_named
returns-in_err-constant_named c =
    let a = c.args in
    simple_unread a.text.now a.p a.start a.end c.requires.0 a.out.now a.out.now c.in_default.ensures c.in_err-constant_named.ensures
    c.from_residual.ensures

pub returns : goal.returns
returns c =
    let a = c.args in
    constant-told a.text.now a.p a.start a.end c.requires.0 a.out.now c.put_constant.new.out c.in_default.ensures c.put_constant.result
    c.in_ok-constant_named.ensures c.put_constant.ensures
