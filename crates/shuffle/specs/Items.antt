-- Items of one size that lie in a buffer one behind the other, exchanged and permuted.
-- Assumes nothing.
use Rattle.std.specs.Prelude.{ℕ, zero, suc, ◌+◌, ◌*◌, List}
use Rattle.symbology.specs.Generator.{next_state}
use Rattle.symbology.specs.Shuffle.{drawn_place, exchanged}

-- the first k bytes of the items i and j exchanged, of those of `width` bytes each from `at` on
unfoldable pub exchanged_first : (k width at i j : ℕ) → List ℕ → List ℕ
exchanged_first zero width at i j xs = xs
exchanged_first (suc k) width at i j xs = exchanged 0 (at + width * i + k) (at + width * j + k) (exchanged_first k width at i j xs)

-- all their bytes
abbrev pub exchanged_items : (width at i j : ℕ) → List ℕ → List ℕ
exchanged_items width at i j xs = exchanged_first width width at i j xs

-- steps 3 to 6 of Annex E with L = n, on these items, from the state s
unfoldable pub permuted_items : (width at n s : ℕ) → List ℕ → List ℕ
permuted_items width at zero s xs = xs
permuted_items width at (suc n) s xs =
    permuted_items width at n (next_state s) (exchanged_items width at (drawn_place (next_state s) (suc n)) n xs)
