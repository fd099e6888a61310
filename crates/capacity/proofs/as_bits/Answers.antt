-- `capacity::as_bits` meets its contract. Assumes nothing.
use native.Mathlib.Omega.{arith}
use Rattle.capacity.proofs.Bounds.{bits_most}
use Rattle.capacity.proofs.as_bits.Goals as goal

pub overflow_mul-result : goal.overflow_mul-result
overflow_mul-result c = omega (arith, bits_most c.args.m.0 c.args.depth c.requires.0 c.requires.1)
