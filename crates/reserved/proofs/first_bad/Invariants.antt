-- `reserved::first_bad` meets its contract. The invariant: the search among all n entries is that among those from entry k on.
-- Assumes nothing.
use Rattle.symbology.specs.Reserved.{bad_at}
use Rattle.laws.proofs.Search.{SearchFrom}
use Rattle.reserved.proofs.first_bad.Given as goal

abbrev pub invariant-loop-k : goal.invariant-loop-k
invariant-loop-k l = SearchFrom (bad_at l.patterns.params l.list) l.n l.k
