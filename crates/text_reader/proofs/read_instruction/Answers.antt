-- `read_instruction` meets its contract: the kind, the fields, and then the line is over. Assumes nothing.
use Rattle.std.proofs.Common.{ℕ, [], ◌∷◌, subst, sym, ◌∙◌}
use borrow.Author.Rules.{rules}
use Rattle.byte_writer.specs.Writing.{Put}
use Rattle.rules.specs.Rules.Instructions.{kind_number}
use Rattle.text_reader.specs.Reading.{instruction_line}
use Rattle.text_reader.proofs.Lines.{line_by, fields_told, line_goes_on, refused-told}
use Rattle.text_reader.proofs.read_instruction.Goals as goal

pub returns-in_err-p : goal.returns-in_err-p
returns-in_err-p c =
    let a = c.args in
    line_by a.own.count a.own.label (instruction_line a.text.now a.p.at (kind_number a.kind)) a.out.now a.p.to c.read_fields.new.out c.from_residual.ensures
    (refused-told a.own.count a.own.label a.text.now a.p.at (kind_number a.kind) c.in_err-p.ensures)

pub returns-then-not-ends_at : goal.returns-then-not-ends_at
returns-then-not-ends_at c =
    let a = c.args in line_goes_on a.own.count a.own.label c.in_ok-p.ensures (sym c.if-not-ends_at.true ∙ c.ends_at.ensures)

pub returns : goal.returns
returns c =
    let a = c.args in
    let put = subst (λ (k : ℕ). Put a.out.now a.p.to (k ∷ []) c.put_byte-to.new.out c.put_byte-to.result) c.from.ensures c.put_byte-to.ensures in
    fields_told a.own.count a.own.label c.in_ok-p.ensures (search rules) put (sym c.if-not-ends_at.false ∙ c.ends_at.ensures)
