-- `balances::weigh` meets its contract. The invariant: the balances are those over the checks up to i. Assumes nothing.
use Rattle.balances.proofs.Balances.{WeighedTo}
use Rattle.balances.proofs.weigh.Given as goal

abbrev pub invariant-loop-i : goal.invariant-loop-i
invariant-loop-i l = WeighedTo l.a l.i l.initial.work l.work
