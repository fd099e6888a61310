use Rattle.balances.proofs.Turning.{turned_next, turned_all}
use Rattle.balances.proofs.turn_marks.Goals as goal

pub loop-i-preserved : goal.loop-i-preserved
loop-i-preserved c =
    turned_next c.requires.0 c.requires.3 c.loop-i.invariant c.in-Some.ensures.first c.turn_check.ensures

pub returns : goal.returns
returns c =
    turned_all c.requires.0 c.requires.3 c.loop-i.invariant c.in_default.ensures.first
