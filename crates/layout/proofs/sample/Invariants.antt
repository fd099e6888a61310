-- `layout::sample` meets its contract. The invariant: the bits of the modules before row r of column c are sampled, and k is the
-- number of data modules among those; for a column r is 0. Assumes nothing.
use Prim.Native.Nat.{◌≤◌}
use mathlib.Core.Path.{◌≡◌}
use Rattle.symbology.specs.Sides.{columns, rows}
use Rattle.symbology.specs.Placement.{rank}
use Rattle.layout.specs.Walk.{SampledTo}
use Rattle.layout.proofs.sample.Given as goal

abbrev pub invariant-loop-c : goal.invariant-loop-c
invariant-loop-c l =
    (l.c ≤ columns l.symbol.patterns.params)
    × (l.k ≡ rank l.symbol.patterns.params l.symbol.list.now l.c 0)
    × SampledTo l.symbol.patterns.params l.symbol.list.now l.matrix l.out l.c 0

abbrev pub invariant-loop-r : goal.invariant-loop-r
invariant-loop-r l =
    (l.r ≤ rows l.symbol.patterns.params)
    × (l.k ≡ rank l.symbol.patterns.params l.symbol.list.now l.c l.r)
    × SampledTo l.symbol.patterns.params l.symbol.list.now l.matrix l.out l.c l.r
