use native.Mathlib.Omega.{arith}
use Rattle.symbol_writer.proofs.Stuffing.{stuffing_first, stuffing_next, stuffing_all}
use Rattle.symbol_writer.proofs.stuff.Goals as goal

pub loop-i-init : goal.loop-i-init
loop-i-init c = stuffing_first c.args.out.now

pub loop-i-preserved : goal.loop-i-preserved
loop-i-preserved c = stuffing_next c.loop-i.invariant (omega (arith, c.loop-i.invariant.long))

pub shape_of-out : goal.shape_of-out
shape_of-out c = c.loop-i.invariant.long

pub returns : goal.returns
returns c = stuffing_all c.loop-i.invariant (omega (arith, c.loop-i.invariant.long))
