-- `lent::put_number` meets its contract: a number below 65536 is its two bytes. Assumes nothing.
use Prim.Native.Nat.{◌/◌, ◌%◌}
use mathlib.Core.Path.{◌≡◌}
use native.Mathlib.Omega.{arith}
use Rattle.lent.specs.Buffer.{stored_number}
use Rattle.lent.proofs.put_number.Goals as goal

pub returns : goal.returns
unfolding stored_number
returns c =
    let small : c.args.v / 256 % 256 ≡ c.args.v / 256 = omega arith in
    rw c.to_le_bytes.ensures (rw small)
