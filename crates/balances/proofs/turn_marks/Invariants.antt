-- `balances::turn_marks` meets its contract. The invariant: the marks of the checks before `from` are turned where the bit stands in them,
-- with the balances. What falls: the checks left. Assumes nothing.
use Prim.Native.Nat.{◌-◌}
use Rattle.balances.proofs.Turning.{TurnedTo}
use Rattle.balances.proofs.turn_marks.Given as goal

abbrev pub invariant-loop-i : goal.invariant-loop-i
invariant-loop-i l = TurnedTo l.a l.j l.from l.initial.work l.work

abbrev pub decreases-loop-i : goal.decreases-loop-i
decreases-loop-i l = l.a.checks - l.from
