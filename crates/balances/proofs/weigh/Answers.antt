use mathlib.Core.Path.{◌∙◌}
use native.Mathlib.Omega.{arith}
use Rattle.lent.proofs.Work.{laid_as}
use Rattle.balances.proofs.Balances.{weighed_start, weighed_votes, weighed_next}
use Rattle.balances.proofs.weigh.Goals as goal

pub loop-i-init : goal.loop-i-init
loop-i-init c =
    weighed_start c.requires.0 c.requires.1 c.level.ensures

pub vote-requires : goal.vote-requires
vote-requires c =
    let laid = c.requires.0 in
    let long = c.loop-i.invariant.changed.long ∙ c.level.ensures.changed.long in
    (laid_as laid long, omega arith, rw c.from-unmet.ensures (weighed_votes laid c.loop-i.invariant (omega arith)))

pub loop-i-preserved : goal.loop-i-preserved
loop-i-preserved c =
    weighed_next c.requires.0 c.loop-i.invariant (omega arith) (rw c.from-unmet.ensures at c.vote.ensures)
