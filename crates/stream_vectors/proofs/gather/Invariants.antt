-- `stream_vectors::gather` is safe. The invariant: no more bits are stored than digits of the line passed. Assumes nothing.
use Rattle.std.proofs.Common.{◌≤◌}
use Rattle.stream_vectors.proofs.gather.Given as goal

abbrev pub invariant-loop-digit : goal.invariant-loop-digit
invariant-loop-digit l = l.n ≤ l.digit-index
