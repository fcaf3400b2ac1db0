-- `Writer::put_decimal` meets its contract: the digits stand at the end of the buffer. Assumes nothing.
use mathlib.Core.Path.{ap}
use native.Mathlib.Omega.{arith}
use lib.ListN.{length}
use Rattle.rules.specs.Rules.Listing.{decimal}
use Rattle.byte_writer.proofs.Digits.{digits-part}
use Rattle.byte_writer.proofs.Writer.put_decimal.Goals as goal

pub put_text-requires : goal.put_text-requires
put_text-requires c =
    let f = c.find_digits-first in
    let a = c.args in
    omega (arith, ap length (digits-part f.new.buffer (decimal a.n) f.result f.auto.buffer f.ensures.1))

pub returns : goal.returns
returns c =
    let f = c.find_digits-first in
    let a = c.args in
    rw (digits-part f.new.buffer (decimal a.n) f.result f.auto.buffer f.ensures.1) at c.put_text.ensures
