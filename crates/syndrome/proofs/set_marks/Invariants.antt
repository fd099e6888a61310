-- `syndrome::set_marks` meets its contract. The invariant: the checks up to i are marked. Assumes nothing.
use Rattle.syndrome.proofs.Marks.{MarkedTo}
use Rattle.syndrome.proofs.set_marks.Given as goal

abbrev pub invariant-loop-i : goal.invariant-loop-i
invariant-loop-i l = MarkedTo l.a l.i l.initial.work l.work
