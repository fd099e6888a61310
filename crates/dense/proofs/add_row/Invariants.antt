-- `dense::add_row` meets its contract. The invariant: the first b bytes of row `from` are added to row `to`, and all else is as it was.
-- Assumes nothing.
use Rattle.dense.proofs.Dense.{AddedTo}
use Rattle.dense.proofs.add_row.Given as goal

abbrev pub invariant-loop-b : goal.invariant-loop-b
invariant-loop-b l = AddedTo l.stride l.to l.from l.b l.initial.xs l.xs
