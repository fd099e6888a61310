-- `reserved::first_entry` meets its contract. The invariant: the search among all n entries is that among those from entry k on.
-- Assumes nothing.
use Rattle.symbology.specs.Reserved.{entry_at}
use Rattle.laws.proofs.Search.{SearchFrom}
use Rattle.reserved.proofs.first_entry.Given as goal

abbrev pub invariant-loop-k : goal.invariant-loop-k
invariant-loop-k l = SearchFrom (entry_at l.list l.x l.y) l.n l.k
