-- `word::mul` meets its contract: the products of halves add up to the product modulo 2^64. Assumes nothing.
use Rattle.std.proofs.Common.{refl}
use Rattle.word.proofs.Product.{by_halves}
use Rattle.word.proofs.mul.Goals as goal

pub returns : goal.returns
returns c = let a = c.args in by_halves a.x a.y _ _ refl refl
