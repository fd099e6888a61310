-- `teaching::shuffle_sum` meets its contract, by that of `shuffle::shuffle` and the law of the interleaving of a sum. Assumes nothing.
use mathlib.Core.Path.{sym, ◌∙◌}
use Rattle.teaching.proofs.Shuffling.{shuffles_add}
use Rattle.teaching.proofs.shuffle_sum.Goals as goal

pub returns-clause-adds : goal.returns-clause-adds
returns-clause-adds c =
    let args = c.args in
    shuffles_add args.state args.x.now args.y.now (c.requires.0 ∙ sym c.requires.1)
    c.shuffle.ensures.0 c.shuffle-2.ensures.0 c.shuffle-3.ensures.0
