-- Parts of a lent buffer, numbers of two bytes in it, and what clearing and counting up do to it. Places count from 0.
-- Assumes nothing.
use Rattle.std.specs.Prelude.{ℕ, ◌+◌, ◌*◌, ◌/◌, ◌%◌, ◌≤◌, ◌<◌, ◌≡◌, List, [], ◌∷◌, get_or, take, drop, set}
use Rattle.symbology.specs.Ranges.{tabulate}
use Rattle.lent.specs.Changes.{span, Changed}

-- the n elements from a place on
abbrev pub part : List ℕ → ℕ → ℕ → List ℕ
part xs at n = take n (drop at xs)

-- the number of the two bytes at a place, the lower byte first
abbrev pub number_at : List ℕ → ℕ → ℕ
number_at xs at = get_or xs at 0 + 256 * get_or xs (at + 1) 0

-- the n numbers of two bytes from a place on
unfoldable pub numbers_at : List ℕ → ℕ → ℕ → List ℕ
numbers_at xs at n = tabulate n (λ i. number_at xs (at + 2 * i))

-- the buffer with a number stored in the two bytes at a place
unfoldable pub stored_number : List ℕ → ℕ → ℕ → List ℕ
stored_number xs at v = set (set xs at (v % 256)) (at + 1) (v / 256)

-- the places from `from` up to `to` are 0, the others as before
pub record Cleared (from to : ℕ) (before after : List ℕ) : Type 0 where
  pub changed : Changed (span from to ∷ []) before after
  pub zero_in : (i : ℕ) → from ≤ i → i < to → get_or after i 0 ≡ 0

-- the n numbers from `at` on are 0, 1, .., n - 1, the other places as before
pub record CountedUp (at n : ℕ) (before after : List ℕ) : Type 0 where
  pub changed : Changed (span at (at + 2 * n) ∷ []) before after
  pub counted : numbers_at after at n ≡ tabulate n (λ j. j)
