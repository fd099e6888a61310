use native.Mathlib.Omega.{arith}
use mathlib.Core.Path.{◌≡◌}
use Rattle.dense.proofs.Dense.{added_next, added_all}
use Rattle.dense.proofs.add_row.Goals as goal

pub loop-b-preserved : goal.loop-b-preserved
loop-b-preserved c = added_next c.loop-b.invariant c.requires.0 (omega arith) (omega arith)

pub returns : goal.returns
returns c =
    let end : c.loop-b.b ≡ c.args.n = omega arith in
    added_all (rw end at c.loop-b.invariant)
