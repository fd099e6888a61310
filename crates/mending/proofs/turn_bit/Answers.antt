-- `mending::turn_bit` meets its contract: the bit is turned after the marks of its checks. Assumes nothing.
use native.Mathlib.Omega.{arith}
use Rattle.syndrome.proofs.Marks.{mark_bits}
use Rattle.mending.proofs.Turning.{bit_kept, bit_turned}
use Rattle.mending.proofs.turn_bit.Goals as goal

pub turn_marks-requires : goal.turn_marks-requires
turn_marks-requires c =
    let ready = c.requires.0 in
    (ready.laid, mark_bits c.args.a c.args.work.now ready.marked, ready.balanced, c.requires.1)

pub overflow_sub-work : goal.overflow_sub-work
overflow_sub-work c =
    let ready = c.requires.0 in
    omega (arith, bit_kept ready.laid c.turn_marks.ensures c.args.j c.requires.1, ready.bits c.args.j)

pub returns : goal.returns
returns c =
    bit_turned c.requires.0 c.requires.1 c.turn_marks.ensures
