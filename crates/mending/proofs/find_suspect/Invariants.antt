-- `mending::find_suspect` meets its contract. The invariant of the search over bits: none is found, and no bit before j is suspect; of that
-- over the checks of a bit: none is found, and those before `from` are counted, unmet and met. What falls there: the checks left.
-- Assumes nothing.
use Prim.Native.Nat.{ℕ, ◌-◌, ◌≤◌, ◌<◌}
use mathlib.Core.Path.{◌≡◌}
use Rattle.std.proofs.Common.{None}
use Rattle.symbology.specs.Rule.{unmet_at, met_at}
use Rattle.lent.specs.Work.{word_in}
use Rattle.checks.specs.Checks.{checks_in}
use Rattle.mending.proofs.Counts.{Passed}
use Rattle.mending.proofs.find_suspect.Given as goal

abbrev pub invariant-loop-i : goal.invariant-loop-i
invariant-loop-i l = (l.found ≡ None) × Passed l.a l.work l.j l.unmet l.met l.from

abbrev pub decreases-loop-i : goal.decreases-loop-i
decreases-loop-i l = l.a.checks - l.from

abbrev pub invariant-bits : goal.invariant-bits
invariant-bits l =
    (l.found ≡ None)
    × ((p : ℕ) → p < l.j → unmet_at (checks_in l.a l.work) (word_in l.a l.work) p ≤ met_at (checks_in l.a l.work) (word_in l.a l.work) p)
