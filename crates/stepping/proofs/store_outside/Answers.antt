-- `store_outside` meets its contract: the move, the observation and the counts are rule 3; or it is not made. Assumes nothing.
use Rattle.stepping.proofs.Steps.{tried-there, store-made, store-unmade}
use Rattle.stepping.proofs.store_outside.Goals as goal

pub store-requires : goal.store-requires
store-requires c =
    let p = c.requires in
    (p.unexpired.fits, c.remaining_window-remaining.ensures.left p.unexpired.costs p.unexpired.window, p.place)

pub returns-in_default : goal.returns-in_default
returns-in_default c =
    λ cells most. store-unmade c.remaining_window-remaining.ensures cells most (tried-there c.new.ensures c.in_default.ensures)

pub returns : goal.returns
returns c =
    λ cells most. store-made c.remaining_window-remaining.ensures cells most (tried-there c.new.ensures c.in-Some.ensures)
    c.observe.ensures c.count_step.ensures
