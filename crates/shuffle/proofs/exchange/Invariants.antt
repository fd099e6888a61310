-- `shuffle::exchange` meets its contract. The invariant: the first k bytes of the two items are exchanged. Assumes nothing.
use Rattle.std.proofs.Common.{◌≡◌}
use Rattle.shuffle.specs.Items.{exchanged_first}
use Rattle.shuffle.proofs.exchange.Given as goal

abbrev pub invariant-loop-k : goal.invariant-loop-k
invariant-loop-k g l = l.xs ≡ exchanged_first l.k g.row.WIDTH l.at l.i l.j l.initial.xs
