-- `dense::turn` meets its contract. Assumes nothing.
use Rattle.dense.proofs.Dense.{turn_stored}
use Rattle.dense.proofs.turn.Goals as goal

pub returns : goal.returns
returns c =
    let args = c.args in
    turn_stored args.stride args.i args.j args.xs.now c.requires.0 c.requires.1
