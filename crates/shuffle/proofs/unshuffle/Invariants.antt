-- `shuffle::unshuffle` meets its contract. The invariant: the exchanges of the last draws are undone, those with at most `last` places
-- left, and s is the state before these draws. Assumes nothing.
use Rattle.shuffle.proofs.Backwards.{Restoring}
use Rattle.shuffle.proofs.unshuffle.Given as goal

abbrev pub invariant-loop-last : goal.invariant-loop-last
invariant-loop-last l = Restoring l.initial.xs l.state l.last l.s l.xs
