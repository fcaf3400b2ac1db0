-- `put_instruction` meets its contract: the word, the fields and the newline, one after the other. Assumes nothing.
use Rattle.rules.specs.Rules.TextPrinting.{instr_text}
use Rattle.text_printer.specs.Programs.{word_text}
use Rattle.byte_writer.specs.Writers.{writes-append}
use Rattle.text_printer.proofs.put_instruction.Goals as goal

pub returns : goal.returns
unfolding instr_text word_text
returns c = writes-append (rw (c.instruction_word.ensures c.args.p.now) at c.put_text.ensures) (writes-append c.put_fields.ensures c.put_byte.ensures)
