-- `balances::level` meets its contract. The invariant: the balances of the first j bits are the number of checks, and nothing outside the
-- balances is changed. Assumes nothing.
use Rattle.balances.proofs.Balances.{LevelTo}
use Rattle.balances.proofs.level.Given as goal

abbrev pub invariant-loop-j : goal.invariant-loop-j
invariant-loop-j l = LevelTo l.a.checks l.a.gross l.a.numbers l.j l.initial.work l.work
