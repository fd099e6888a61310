use Prim.Native.Nat.{◌<◌}
use mathlib.Core.Path.{refl}
use native.Mathlib.Omega.{arith}
use lib.ListN.{length-take}
use Rattle.symbology.specs.Bits.{value}
use Rattle.bitfield.proofs.Digits.{value_next, value_small}
use Rattle.bitfield.proofs.bits_value.Goals as goal
use Rattle.bitfield.proofs.bits_value.Goals.{In-loop-bit}

pub loop-bit-init : goal.loop-bit-init
unfolding value
loop-bit-init c = refl

-- there is room for another bit
room : (c : In-loop-bit) → c.loop-bit.v < 32768
room c =
    let few : c.loop-bit.bit-index < c.args.n = omega (arith, simp length-take at c.loop-bit-test.true) in
    value_small c.loop-bit.bit-index c.args.n _ c.loop-bit.invariant few c.requires.1

pub overflow_mul-v : goal.overflow_mul-v
overflow_mul-v c = omega (arith, room c)

pub overflow_add-v : goal.overflow_add-v
overflow_add-v c = omega (arith, room (goal.at.overflow_add-v c).In-loop-bit)

pub loop-bit-preserved : goal.loop-bit-preserved
loop-bit-preserved c =
    let next = value_next _ c.loop-bit.bit-index c.loop-bit-test.true in
    cc
