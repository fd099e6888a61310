-- `check_matrix::build` meets its contract. The invariant: the rows of the first `block` blocks are those of A and the others are 0, the
-- numbers are the column order of the last of these blocks, and the state is the one behind its draws. Assumes nothing.
use Rattle.check_matrix.proofs.Blocks.{BlocksBuilt}
use Rattle.check_matrix.proofs.build.Given as goal

abbrev pub invariant-loop-block : goal.invariant-loop-block
invariant-loop-block l = BlocksBuilt l.a l.t l.wr l.block l.state l.initial.work l.work
