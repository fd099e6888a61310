use mathlib.Core.Path.{◌∙◌}
use native.Mathlib.Omega.{arith}
use Rattle.shuffle.proofs.Backwards.{restoring_start, restoring_next, restoring_done}
use Rattle.shuffle.proofs.Items.{stored_both}
use Rattle.shuffle.proofs.unshuffle.Goals as goal

pub loop-last-init : goal.loop-last-init
loop-last-init c = rw c.state_after-s.ensures (restoring_start c.args.xs.now c.args.state)

pub loop-last-preserved : goal.loop-last-preserved
loop-last-preserved c =
    let now = c.loop-last in
    restoring_next now.invariant c.ranges.state.fits (omega arith) c.drawn_place.ensures.0
    (c.swap.ensures.by_index.3 0 ∙ stored_both c.drawn_place.result now.last now.xs) c.previous_state-s.ensures

pub returns : goal.returns
returns c = restoring_done c.loop-last.invariant (omega arith)
