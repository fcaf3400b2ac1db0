-- `new_word` meets its contract, for a word that is kept and for one that is made. Assumes nothing.
use mathlib.Core.Path.{refl}
use Rattle.test_load.proofs.new_word.Goals as goal

pub returns-then-keep : goal.returns-then-keep
returns-then-keep c = rw c.if-keep.true refl

pub returns : goal.returns
returns c = rw (c.if-keep.false, c.next_word-made.ensures) refl
