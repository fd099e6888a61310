-- `lent::count_up` meets its contract. The invariant: the first j of the n numbers are stored, and nothing outside them is changed.
-- Assumes nothing.

use Rattle.lent.proofs.Counting.{CountingUp}
use Rattle.lent.proofs.count_up.Given as goal

abbrev pub invariant-loop-j : goal.invariant-loop-j
invariant-loop-j l = CountingUp l.at l.n l.j l.initial.xs l.xs
