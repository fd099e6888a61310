-- `symbol_reader::wrong_stuffing` meets its contract. The invariant: so many of the bits before i are wrong, and i is no more than the
-- number of bits. What falls: the bits left. Assumes nothing.
use Prim.Native.Nat.{◌≤◌}
use lib.ListN.{length}
use Rattle.symbol_reader.proofs.Stuffing.{WrongTo}
use Rattle.symbol_reader.proofs.wrong_stuffing.Given as goal

abbrev pub invariant-loop-i : goal.invariant-loop-i
invariant-loop-i l = WrongTo l.bits l.wrong l.i × (l.i ≤ length l.bits)
