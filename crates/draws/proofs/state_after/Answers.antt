use Rattle.std.proofs.Common.{sym, ap, ◌∙◌, add-one}
use Rattle.symbology.specs.Generator.{next_state}
use Rattle.draws.proofs.States.{after_none, after_next}
use Rattle.draws.proofs.state_after.Goals as goal

pub loop-init : goal.loop-init
loop-init c = sym (after_none c.args.s)

pub loop-preserved : goal.loop-preserved
loop-preserved c =
    rw add-one (c.next_state-state.ensures ∙ ap next_state c.loop.invariant ∙ sym (after_next c.loop.counter c.args.s))
