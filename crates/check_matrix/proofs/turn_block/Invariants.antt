-- `check_matrix::turn_block` meets its contract. The invariant: in the first j columns the bit to which the column order leads is turned,
-- and no other. Assumes nothing.
use Rattle.check_matrix.proofs.Turning.{TurningBlock}
use Rattle.check_matrix.proofs.turn_block.Given as goal

abbrev pub invariant-loop-j : goal.invariant-loop-j
invariant-loop-j l = TurningBlock l.a l.wr l.first l.j l.initial.work l.work
