-- `transfer::load_state` meets its contract. The invariant: the locations passed hold their words. Assumes nothing.
use Rattle.transfer.proofs.Laws.{Loading}
use Rattle.transfer.proofs.load_state.Given as goal

abbrev pub invariant-loop-loaded : goal.invariant-loop-loaded
invariant-loop-loaded l = Loading l.bytes l.at l.n l.initial.work l.work l.loaded
