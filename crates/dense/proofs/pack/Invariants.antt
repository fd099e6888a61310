-- `dense::pack` meets its contract. The invariant: row k holds the first j bits of the word and is 0 in the columns behind them, and all
-- else is as it was. Assumes nothing.
use Rattle.dense.proofs.Dense.{PackedTo}
use Rattle.dense.proofs.pack.Given as goal

abbrev pub invariant-loop-j : goal.invariant-loop-j
invariant-loop-j l = PackedTo l.stride l.k l.word l.j l.initial.xs l.xs
