-- `store` meets its contract: the entry that was found is replaced, one is added, or there is no room. Assumes nothing.
use mathlib.Core.Path.{refl}
use Rattle.outside.proofs.Laws.{tried-replaced, tried-added, tried-full}
use Rattle.outside.proofs.store.Goals as goal

pub returns-in-Some : goal.returns-in-Some
returns-in-Some c =
    let e = c.in-Some.ensures in
    tried-replaced e.0 c.entry_count-count.ensures e.1 c.replace.ensures

pub returns-then-count-ge-MAX_ENTRIES : goal.returns-then-count-ge-MAX_ENTRIES
returns-then-count-ge-MAX_ENTRIES c =
    tried-full refl c.entry_count-count.ensures c.in_default.ensures c.if-count-ge-MAX_ENTRIES.true

pub returns : goal.returns
returns c =
    tried-added refl c.entry_count-count.ensures c.in_default.ensures c.if-count-ge-MAX_ENTRIES.false c.append.ensures
