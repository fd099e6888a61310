-- `layout::unmasked_in` meets its contract. Assumes nothing.
use Prim.Native.Nat.{◌≤◌}
use native.Mathlib.Omega.{arith}
use lib.ListN.{drop}
use lib.Pow.{pow_mono}
use Rattle.laws.proofs.Bits.{value_take}
use Rattle.layout.proofs.unmasked_in.Goals as goal

pub overflow_cast-result : goal.overflow_cast-result
overflow_cast-result c =
    let a = c.args in
    let few : a.n ≤ 8 = c.requires.1 in
    omega (arith, c.bits_value.ensures, value_take a.n (drop a.at a.bits.now), pow_mono few)
