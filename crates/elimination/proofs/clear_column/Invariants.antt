-- `elimination::clear_column` meets its contract. The invariant: the pivot row is added to the rows before i that it is to be added to, and
-- all else is as it was. Assumes nothing.
use Rattle.elimination.proofs.Cleared.{ClearedTo}
use Rattle.elimination.proofs.clear_column.Given as goal

abbrev pub invariant-loop-i : goal.invariant-loop-i
invariant-loop-i l = ClearedTo l.a l.pivot l.j l.i l.initial.work l.work
