-- `evaluation::general_value` meets its contract: what is evaluated are the tokens that the instruction reads first. Assumes nothing.
use mathlib.Core.Path.{ap, ◌∙◌}
use Rattle.rules.specs.Rules.Expressions.{eval}
use Rattle.descriptor.specs.Descriptors.{instruction_in}
use Rattle.work.specs.Words.{tagged_at}
use Rattle.evaluation.proofs.Laws.{general_tokens}
use Rattle.evaluation.proofs.general_value.Goals as goal

pub expression_of-e-requires : goal.expression_of-e-requires
expression_of-e-requires c = c.requires.1.1

pub evaluate-requires : goal.evaluate-requires
evaluate-requires c =
    let a = c.args in
    let e = general_tokens a.p.now a.d.at (instruction_in a.p.now a.d) c.expression_of-e.result c.expression_of-e.ensures c.requires.1 in
    (rw e (c.requires.1.2 c.requires.0.sound), c.requires.2)

pub returns : goal.returns
returns c =
    let a = c.args in
    c.evaluate.ensures
    ∙ ap (eval (tagged_at a.work.now))
    (general_tokens a.p.now a.d.at (instruction_in a.p.now a.d) c.expression_of-e.result c.expression_of-e.ensures c.requires.1)
