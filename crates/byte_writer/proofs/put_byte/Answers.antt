-- `put_byte` meets its contract: past the end the store of the contract changes nothing. Assumes nothing.
use Rattle.byte_writer.proofs.Laws.{put-stored, put-past}
use Rattle.byte_writer.proofs.put_byte.Goals as goal
use Rattle.byte_writer.proofs.put_byte.Goals.{then-at-out, else-at-out}

pub returns : goal.returns
returns c = elim c.if-at-out.branch [ then-at-out w ↦ put-stored w.out-is | else-at-out w ↦ put-past _ w.if-at-out.false w.out-is ]
