-- `draws::state_after` meets its contract. The invariant: the state is that after the draws made so far. Assumes nothing.
use Rattle.std.proofs.Common.{◌≡◌}
use Rattle.symbology.specs.Generator.{state_after}
use Rattle.draws.proofs.state_after.Given as goal

abbrev pub invariant-loop : goal.invariant-loop
invariant-loop l = l.state ≡ state_after l.counter l.s
