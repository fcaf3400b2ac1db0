-- `put_program` meets its contract. The invariant: the text of the instructions left ends where the whole text ends. Assumes nothing.
use mathlib.Core.Path.{◌≡◌}
use mathlib.Core.List.{◌++◌}
use Prim.Native.Nat.{suc, ◌+◌, ◌-◌}
use native.Mathlib.Nat.{sub-zero}
use native.Mathlib.Omega.{arith}
use Rattle.rules.specs.Rules.JobFile.{got, instr}
use Rattle.rules.specs.Rules.TextPrinting.{instr_text}
use Rattle.instruction.specs.Meaning.{meaning}
use Rattle.byte_writer.specs.Writers.{Writes, remains-whole, remains-nothing, remains-room, remains-next}
use Rattle.text_printer.specs.Programs.{program_printed}
use Rattle.text_printer.proofs.Programs.{first_of, first_decoded, first_printable, first-later, first-split, none_left, printed-length, text_left}
use Rattle.std.proofs.lemmas.Grind.{common_steps}
use Rattle.text_printer.proofs.put_program.Goals as goal

pub loop-init : goal.loop-init
unfolding program_printed
loop-init c =
    (rw sub-zero (remains-whole _ _), rw sub-zero c.requires.0)

pub put_instruction-requires : goal.put_instruction-requires
put_instruction-requires c =
    let a = c.args in
    let p = a.p.now in
    let v = c.loop in
    let d = c.unwrap-d.result in
    let e : a.n - v.counter ≡ suc (a.n - (v.counter + 1)) = omega arith in
    let f = first_of a.n (a.n - (v.counter + 1)) v.counter p v.offset (rw e at v.invariant.1) in
    let told : got (meaning p d.instruction) d.next ≡ instr p v.offset = rw c.unwrap-d.ensures at c.decode.ensures.0 in
    let x = instr_text (meaning p d.instruction) in
    let later = text_left a.n p d.next (v.counter + 1) in
    let split : text_left a.n p v.offset v.counter ≡ x ++ later = rw e (first-split f told) in
    let short = printed-length a.n p c.requires.0 c.requires.1 in
    (first_printable f told, remains-room x later v.invariant.0 split (omega (arith, short, c.new-writer.ensures.place)))

pub loop-preserved : goal.loop-preserved
loop-preserved c =
    let a = c.args in
    let p = a.p.now in
    let v = c.loop in
    let d = c.unwrap-d.result in
    let e : a.n - v.counter ≡ suc (a.n - (v.counter + 1)) = omega arith in
    let f = first_of a.n (a.n - (v.counter + 1)) v.counter p v.offset (rw e at v.invariant.1) in
    let told : got (meaning p d.instruction) d.next ≡ instr p v.offset = rw c.unwrap-d.ensures at c.decode.ensures.0 in
    let x = instr_text (meaning p d.instruction) in
    let later = text_left a.n p d.next (v.counter + 1) in
    let split : text_left a.n p v.offset v.counter ≡ x ++ later = rw e (first-split f told) in
    (remains-next x later v.invariant.0 split c.put_instruction.ensures, first-later f told)

pub unwrap-d-requires : goal.unwrap-d-requires
unwrap-d-requires c =
    let a = c.args in
    let v = c.loop in
    let e : a.n - v.counter ≡ suc (a.n - (v.counter + 1)) = omega arith in
    first_decoded (first_of a.n (a.n - (v.counter + 1)) v.counter a.p.now v.offset (rw e at v.invariant.1)) _ c.decode.ensures.0

pub returns : goal.returns
returns c =
    let a = c.args in
    let v = c.loop in
    let over : a.n - v.counter ≡ 0 = omega arith in
    let whole : Writes c.new-writer.result (program_printed a.p.now a.n) v.writer =
    remains-nothing (rw (over, none_left a.n v.counter a.p.now v.offset) at v.invariant.0) in
    grind (arith, common_steps)
