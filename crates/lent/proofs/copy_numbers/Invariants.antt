-- `lent::copy_numbers` meets its contract. The invariant: the first i numbers are stored at the front of the slice.
-- Assumes nothing.
use Rattle.pieces.specs.Pieces.{StoredAt}
use Rattle.lent.specs.Buffer.{numbers_at}
use Rattle.lent.proofs.copy_numbers.Given as goal

abbrev pub invariant-loop-i : goal.invariant-loop-i
invariant-loop-i l = StoredAt (numbers_at l.xs l.at l.i) 0 l.initial.out l.out l.i
