-- `second_state` meets its contract, by computing. Assumes nothing.
use mathlib.Core.Path.{refl}
use Rattle.rules.specs.Rules.Encoding.{bytes_of, word_bytes}
use Rattle.rules.specs.Cases.Document01.{state}
use Rattle.cases.proofs.second_state.Goals as goal

pub returns : goal.returns
unfolding bytes_of word_bytes state
returns c = refl
