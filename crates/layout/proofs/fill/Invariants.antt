-- `layout::fill` meets its contract. The invariant: the modules before row r of column c are filled, and k is the number of data
-- modules among them; for a column r is 0. Assumes nothing.
use Prim.Native.Nat.{◌≤◌}
use mathlib.Core.Path.{◌≡◌}
use Rattle.symbology.specs.Sides.{columns, rows}
use Rattle.symbology.specs.Placement.{rank}
use Rattle.layout.specs.Walk.{FilledTo}
use Rattle.layout.proofs.fill.Given as goal

abbrev pub invariant-loop-c : goal.invariant-loop-c
invariant-loop-c l =
    (l.c ≤ columns l.symbol.patterns.params)
    × (l.k ≡ rank l.symbol.patterns.params l.symbol.list.now l.c 0)
    × FilledTo l.symbol.patterns.params l.symbol.list.now l.bits l.matrix l.c 0

abbrev pub invariant-loop-r : goal.invariant-loop-r
invariant-loop-r l =
    (l.r ≤ rows l.symbol.patterns.params)
    × (l.k ≡ rank l.symbol.patterns.params l.symbol.list.now l.c l.r)
    × FilledTo l.symbol.patterns.params l.symbol.list.now l.bits l.matrix l.c l.r
