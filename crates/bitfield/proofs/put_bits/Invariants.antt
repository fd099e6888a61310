-- `bitfield::put_bits` meets its contract. The invariant: storing the i bits that are left gives what storing all n of them gives.
-- Assumes nothing.
use mathlib.Core.Path.{◌≡◌}
use lib.Seq.{sets}
use Rattle.symbology.specs.Bits.{bits}
use Rattle.bitfield.proofs.put_bits.Given as goal

abbrev pub invariant-loop-i : goal.invariant-loop-i
invariant-loop-i l = sets l.out l.at (bits l.i l.rest) ≡ sets l.initial.out l.at (bits l.n l.v)
