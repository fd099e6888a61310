use native.Mathlib.Omega.{arith}
use Rattle.balances.proofs.Balances.{level_next}
use Rattle.balances.proofs.level.Goals as goal

pub loop-j-preserved : goal.loop-j-preserved
loop-j-preserved c =
    level_next c.loop-j.invariant (omega (arith, c.requires)) (omega arith) c.put_number.ensures
