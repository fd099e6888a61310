use mathlib.Core.Path.{refl}
use native.Mathlib.Omega.{arith}
use Rattle.check_matrix.proofs.Turning.{turning_start, turning_row, turning_place, turning_next}
use Rattle.check_matrix.proofs.turn_block.Goals as goal

pub loop-j-init : goal.loop-j-init
loop-j-init c =
    let args = c.args in
    turning_start args.a args.wr args.first args.work.now

pub overflow_add-first : goal.overflow_add-first
overflow_add-first c =
    let pre = c.requires in
    let row = turning_row pre.0 pre.1 c.loop-j.invariant (omega arith) c.number_at-c.ensures.0 in
    omega (arith, row)

pub turn-requires : goal.turn-requires
turn-requires c =
    let pre = c.requires in
    turning_place pre.0 pre.1 c.loop-j.invariant refl (omega arith) c.number_at-c.ensures.0

pub loop-j-preserved : goal.loop-j-preserved
loop-j-preserved c =
    let pre = c.requires in
    turning_next pre.0 pre.1 c.loop-j.invariant (omega arith) c.number_at-c.ensures.0 c.turn.ensures
