-- `checker_test_load` meets its contract. Assumes nothing.
use mathlib.Core.Path.{◌∙◌, ap}
use Rattle.std.specs.Prelude.{Ok}
use Rattle.rules.specs.declared.TestLoad.{TestLoad}
use Rattle.rules.specs.Rules.Outcomes.{TestLoadAnswer}
use Rattle.checker_c.proofs.Laws.{test-load-refused, unfinished_returned, test_load_returned}
use Rattle.checker_c.proofs.checker_test_load.Goals as goal

pub returns-in-Err : goal.returns-in-Err
returns-in-Err c =
    test-load-refused c.test_load.ensures c.in-Err.is c.from.ensures

pub returns-in-Ok-Undecided : goal.returns-in-Ok-Undecided
returns-in-Ok-Undecided c =
    let v = c.in-Ok-Undecided in
    unfinished_returned c.test_load.ensures (v.is ∙ ap {B = TestLoadAnswer} (λ (x : TestLoad). Ok x) v.field-0-is) c.write_unfinished.ensures

pub returns-in-Ok-Compared : goal.returns-in-Ok-Compared
returns-in-Ok-Compared c =
    let v = c.in-Ok-Compared in
    test_load_returned c.test_load.ensures (v.is ∙ ap {B = TestLoadAnswer} (λ (x : TestLoad). Ok x) v.field-0-is) c.write_test_load.ensures
