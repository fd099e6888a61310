-- `mending::run_rule` meets its contract. The invariant: the repairs so far are in the list, and with those of the run from the word now
-- they are the repairs of the run from the word at first. What falls: the number of unmet checks. Assumes nothing.
use Rattle.symbology.specs.Rule.{unmet_count}
use Rattle.lent.specs.Work.{word_in}
use Rattle.checks.specs.Checks.{checks_in}
use Rattle.mending.proofs.Run.{MendedTo}
use Rattle.mending.proofs.run_rule.Given as goal

abbrev pub invariant-loop-j : goal.invariant-loop-j
invariant-loop-j l = MendedTo l.a l.initial.work l.work l.repairs

abbrev pub decreases-loop-j : goal.decreases-loop-j
decreases-loop-j l = unmet_count (checks_in l.a l.initial.work) (word_in l.a l.work)
