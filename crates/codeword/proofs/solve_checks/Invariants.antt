-- `codeword::solve_checks` meets its contract. The invariant: the check columns before c hold the parity of their rows over the columns
-- before them, the other columns hold what they held, and the word stands as the row behind the rows too.
-- Assumes nothing.
use Rattle.codeword.proofs.Solving.{SolvedTo}
use Rattle.codeword.proofs.solve_checks.Given as goal

abbrev pub invariant-loop-c : goal.invariant-loop-c
invariant-loop-c l = SolvedTo l.a l.initial.work l.work l.c
