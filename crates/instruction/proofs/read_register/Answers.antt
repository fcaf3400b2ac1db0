-- `instruction::read_register` meets its contract, by its two tests. Assumes nothing.
use borrow.Author.Tests.{lt-ltb, le-ltb}
use Rattle.rules.specs.Rules.JobFile.{register}
use Rattle.token.specs.Bytes.{byte-got, byte_past}
use Rattle.instruction.proofs.read_register.Goals.{else-at-p-via-then-at-p+else-p-at-lt-REGISTERS, else-at-p-via-else-at-p}
use Rattle.instruction.proofs.read_register.Goals as goal

pub returns-then-p-at-lt-REGISTERS : goal.returns-then-p-at-lt-REGISTERS
unfolding register
returns-then-p-at-lt-REGISTERS c =
    let a = c.args in simp (byte-got a.p.now a.at c.if-at-p.true, lt-ltb _ _ c.if-p-at-lt-REGISTERS.true)

pub returns : goal.returns
unfolding register
returns c =
    let a = c.args in
    elim c.else-at-p.branch [
      | else-at-p-via-then-at-p+else-p-at-lt-REGISTERS w ↦ simp (byte-got a.p.now a.at w.if-at-p.true, le-ltb _ _ w.if-p-at-lt-REGISTERS.false)
      | else-at-p-via-else-at-p w ↦ simp (byte_past a.p.now a.at w.if-at-p.false)
    ]
