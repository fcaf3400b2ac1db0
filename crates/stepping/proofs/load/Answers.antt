-- `load` meets its contract: the word of each way is the rules'. Assumes nothing.
use Rattle.stepping.proofs.Steps.{load-carried}
use Rattle.stepping.proofs.load.Goals as goal

pub returns-then-cells-a : goal.returns-then-cells-a
returns-then-cells-a c =
    let a = c.args in
    load-carried a.r a.a _ (λ code ec. c.loaded_outside-v.ensures code a.cells ec c.if-cells-a.true)
    (c.load_word.ensures a.cells c.requires.2)

pub returns : goal.returns
returns c =
    let a = c.args in
    load-carried a.r a.a _ (λ code ec. c.loaded_cell-v.ensures code a.cells ec c.if-cells-a.false)
    (c.load_word-2.ensures a.cells c.requires.2)
