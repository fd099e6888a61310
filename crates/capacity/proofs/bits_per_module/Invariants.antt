-- `capacity::bits_per_module` meets its contract. The invariant: the search for the bits goes on from `depth`. Assumes nothing.
use Rattle.laws.proofs.Search.{SearchFrom}
use Rattle.capacity.proofs.Depth.{tells}
use Rattle.capacity.proofs.bits_per_module.Given as goal

abbrev pub invariant-loop-depth : goal.invariant-loop-depth
invariant-loop-depth l = SearchFrom (tells l.colours) 8 l.depth
