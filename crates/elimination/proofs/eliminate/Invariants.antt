-- `elimination::eliminate` meets its contract. The invariant: the columns from j on are eliminated, and the rows before `first` have marks.
-- It does not see the buffer at entry, as the marks are cleared before the loop; so it speaks of every buffer that the clearing makes the
-- loop's first one. Assumes nothing.
use Prim.Native.Nat.{ℕ, ◌+◌, ◌≤◌}
use mathlib.Core.List.{List}
use lib.ListN.{length}
use Rattle.lent.specs.Buffer.{Cleared}
use Rattle.lent.specs.Work.{Laid}
use Rattle.elimination.specs.Reduced.{MarkedBefore}
use Rattle.elimination.proofs.Eliminated.{Eliminating}
use Rattle.elimination.proofs.eliminate.Given as goal

abbrev pub invariant-loop-j : goal.invariant-loop-j
invariant-loop-j l =
    ((entry : List ℕ)
    → Laid l.a (length entry)
    → Cleared l.a.marks (l.a.marks + l.a.checks) entry l.initial.work
    → Eliminating l.a l.j entry l.work)
    × (l.first ≤ l.a.checks)
    × MarkedBefore l.a l.work l.first
