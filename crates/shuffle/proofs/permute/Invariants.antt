-- `shuffle::permute` meets its contract. The invariant: to permute the first `last` items from the state s gives the permuted items and the
-- state after all draws. Assumes nothing.
use Rattle.std.proofs.Common.{◌≡◌}
use Rattle.symbology.specs.Generator.{state_after}
use Rattle.shuffle.specs.Items.{permuted_items}
use Rattle.shuffle.proofs.permute.Given as goal

abbrev pub invariant-loop-last : goal.invariant-loop-last
invariant-loop-last g l =
    (permuted_items g.row.WIDTH l.at l.last l.s l.xs ≡ permuted_items g.row.WIDTH l.at l.n l.state l.initial.xs)
    × (state_after l.last l.s ≡ state_after l.n l.state)
