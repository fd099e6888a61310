-- Numbers of two bytes in a buffer, permuted.
-- Assumes nothing.
use Rattle.std.specs.Prelude.{ℕ, ◌+◌, ◌*◌, ◌≡◌, List, [], ◌∷◌}
use Rattle.symbology.specs.Shuffle.{shuffled}
use Rattle.lent.specs.Changes.{span, Changed}
use Rattle.lent.specs.Buffer.{numbers_at}

-- the n numbers from `at` on are permuted, and nothing else is changed
pub record NumbersShuffled (at n state : ℕ) (before after : List ℕ) : Type 0 where
  pub changed : Changed (span at (at + 2 * n) ∷ []) before after
  pub numbers_are : numbers_at after at n ≡ shuffled 0 state (numbers_at before at n)
