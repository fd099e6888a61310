-- `pieces::put_all` meets its contract. The invariant: the first i bytes are stored. Assumes nothing.
use Prim.Native.Nat.{◌+◌}
use lib.ListN.{take}
use Rattle.pieces.specs.Pieces.{StoredAt}
use Rattle.pieces.proofs.put_all.Given as goal

abbrev pub invariant-loop-i : goal.invariant-loop-i
invariant-loop-i l = StoredAt (take l.i l.bytes) l.at l.initial.out l.out (l.at + l.i)
