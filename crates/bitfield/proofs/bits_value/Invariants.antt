-- `bitfield::bits_value` meets its contract. The invariant: v is the number that the bits read so far write.
-- Assumes nothing.
use mathlib.Core.Path.{◌≡◌}
use lib.ListN.{take}
use Rattle.symbology.specs.Bits.{value}
use Rattle.bitfield.proofs.bits_value.Given as goal

abbrev pub invariant-loop-bit : goal.invariant-loop-bit
invariant-loop-bit l = l.v ≡ value (take l.bit-index l.bit-items)
