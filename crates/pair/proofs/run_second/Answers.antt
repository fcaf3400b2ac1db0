-- `pair::run_second` meets its contract: the run with the second state, and the word on both. Assumes nothing.
use Rattle.pair.proofs.Laws.{first_fits, second_fits, second-ran}
use Rattle.pair.proofs.run_second.Goals as goal

pub word_on-word-requires : goal.word_on-word-requires
word_on-word-requires c =
    let a = c.args in
    let k = c.requires in
    let o = c.run_state-run.ensures in
    record {
      sized = k.0.sized;
      first_fits = first_fits a.job.now a.costs.now k.0 k.1 o;
      second_fits = second_fits a.job.now a.costs.now k.0 k.1 o;
    }

pub returns : goal.returns
returns c =
    let a = c.args in
    let k = c.requires in
    second-ran a.job.now a.costs.now k.0 k.1 c.run_state-run.ensures c.clear.ensures c.word_on-word.ensures
