-- `read_register` meets its contract: a register is a name. Assumes nothing.
use Rattle.std.proofs.Common.{refl, sym, drop, arith}
use Rattle.rules.specs.Rules.Parts.{parts}
use Rattle.rules.specs.Rules.TextReading.{by_name, register_named}
use Rattle.text_reader.specs.Fields.{register}
use Rattle.text_reader.proofs.Fields.{told-by}
use Rattle.text_reader.proofs.Parts.{name-read, name-unread, other-unread, number-some, number-none}
use Rattle.text_reader.proofs.read_register.Goals as goal

pub returns-in_default : goal.returns-in_default
returns-in_default c =
    let a = c.args in
    other-unread a.text.now a.p.at register register_named c.part_at.result c.part_at.ensures c.in_default.not-Name

pub returns-in_err-register : goal.returns-in_err-register
returns-in_err-register c =
    let a = c.args in
    told-by register a.text.now (by_name register_named (parts (drop a.p.at a.text.now))) a.out.now a.p.to a.out.now (sym c.from_residual.ensures)
    (name-unread a.text.now a.p.at register register_named c.in-Name.ensures (number-none _ c.in_err-register.ensures))

pub returns : goal.returns
returns c =
    let a = c.args in
    let p = c.put_byte-next.ensures in
    record {
      value = c.in_ok-register.register;
      read = name-read a.text.now a.p.at register register_named c.in-Name.ensures (number-some _ c.in_ok-register.ensures);
      kept = refl;
      put = p;
      size = omega (arith, p.place);
    }
