-- `go_to` meets its contract. Assumes nothing.
use mathlib.Core.Path.{refl}
use Rattle.rules.specs.Rules.Calls.{trace_words}
use Rattle.stepping.proofs.Steps.{kept, kept-shown}
use Rattle.stepping.proofs.go_to.Goals as goal

pub returns : goal.returns
unfolding trace_words
returns c =
    let a = c.args in
    let k = kept c.lowered_window-remaining.ensures c.go-gone.ensures refl c.count_step.ensures in
    let e = c.observe.ensures in
    record { exact = (k, e); carried = λ v cells h live most. kept-shown live most a.place v (rw h k) e }
