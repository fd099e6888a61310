-- `patterns::near_core` meets its contract. The invariant: the search among all cores is that among those from i on. Assumes nothing.
use mathlib.Core.Path.{◌≡◌}
use lib.ListN.{drop}
use Rattle.symbology.specs.Patterns.{near_core}
use Rattle.patterns.proofs.near_core.Given as goal

abbrev pub invariant-loop-i : goal.invariant-loop-i
invariant-loop-i l = near_core 0 l.cores l.x ≡ near_core l.i (drop l.i l.cores) l.x
