-- `lent::areas_for` meets its contract. Assumes nothing.
use Prim.Native.Nat.{◌+◌, ◌/◌}
use mathlib.Core.Path.{◌≡◌, refl}
use native.Mathlib.Omega.{arith}
use Rattle.lent.specs.Work.{areas_of}
use Rattle.lent.proofs.areas_for.Goals as goal

pub returns : goal.returns
unfolding areas_of
returns c =
    let rounded : c.div_ceil-stride.result ≡ (c.args.s.gross + 7) / 8 = omega (arith, c.div_ceil-stride.ensures) in
    rw rounded refl
