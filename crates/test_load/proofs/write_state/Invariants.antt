-- `write_state` meets its contract. The invariant: what is left of the new state from location l on ends where all of it ends.
-- Assumes nothing.
use Rattle.byte_writer.specs.Texts.{Left}
use Rattle.test_load.proofs.Laws.{rest_of}
use Rattle.test_load.proofs.write_state.Given as goal

abbrev pub invariant-loop-l : goal.invariant-loop-l
invariant-loop-l l =
    Left l.initial.state 0 (rest_of l.kept l.bytes l.at l.n l.seed 0) l.state l.place (rest_of l.kept l.bytes l.at l.n l.last l.l)
