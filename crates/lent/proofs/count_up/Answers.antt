use native.Mathlib.Omega.{arith}
use Rattle.lent.proofs.Counting.{counting_next, counting_done}
use Rattle.lent.proofs.count_up.Goals as goal

pub loop-j-preserved : goal.loop-j-preserved
loop-j-preserved c = counting_next c.loop-j.invariant c.requires.1 (omega arith) c.put_number.ensures

pub returns : goal.returns
returns c = counting_done c.loop-j.invariant (omega arith)
