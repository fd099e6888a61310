-- `stream_vectors::stream_length` is safe: a stream has at most 32 bits a byte. Assumes nothing.
use native.Mathlib.Omega.{arith}
use Rattle.stream_writer.proofs.Lengths.{chosen_bounds}
use Rattle.stream_vectors.proofs.stream_length.Goals as goal

pub returns : goal.returns
returns c = omega (arith, chosen_bounds c.args.message.now)
