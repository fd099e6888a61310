-- `dense::bit` meets its contract. Assumes nothing.
use mathlib.Core.Path.{refl}
use Rattle.dense.specs.Dense.{dense_bits}
use Rattle.dense.proofs.bit.Goals as goal

pub returns : goal.returns
unfolding dense_bits
returns c = refl
