-- `symbol_writer::stuff` meets its contract. The invariant: the first i places hold their stuffing bits, and the buffer keeps its length.
-- Assumes nothing.
use Rattle.symbol_writer.proofs.Stuffing.{Stuffing}
use Rattle.symbol_writer.proofs.stuff.Given as goal

abbrev pub invariant-loop-i : goal.invariant-loop-i
invariant-loop-i l = Stuffing l.i l.initial.out l.out
