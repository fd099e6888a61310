-- 002, Annex E: the in-place permutation, of a list of anything, and its inverse.
-- Assumes nothing.
use Rattle.std.specs.Prelude.{ℕ, zero, suc, List, length, get_or, set}
use Rattle.symbology.specs.Generator.{next_state, draw}
use Rattle.symbology.specs.Place.{place_of}

-- Annex E, step 3: the place drawn in a state with n places left
unfoldable pub drawn_place : ℕ → ℕ → ℕ
drawn_place s n = place_of (draw s) n

-- z is what stands past a list's end. No place of the library's lists, which have at most 4,096 elements, lies there.
module _ {A : Type 0} (z : A) where
  -- step 4: the elements at i and j exchanged
  unfoldable pub exchanged : ℕ → ℕ → List A → List A
  exchanged i j xs = set (set xs i (get_or xs j z)) j (get_or xs i z)

  -- steps 3 to 6 with L = n, from the state s
  unfoldable pub shuffled_first : ℕ → ℕ → List A → List A
  shuffled_first zero s xs = xs
  shuffled_first (suc n) s xs = shuffled_first n (next_state s) (exchanged (drawn_place (next_state s) (suc n)) n xs)

  -- the whole list, from a seed or a state that runs on
  unfoldable pub shuffled : ℕ → List A → List A
  shuffled s xs = shuffled_first (length xs) s xs

  -- the same exchanges in the reverse order
  unfoldable pub unshuffled_first : ℕ → ℕ → List A → List A
  unshuffled_first zero s xs = xs
  unshuffled_first (suc n) s xs = exchanged (drawn_place (next_state s) (suc n)) n (unshuffled_first n (next_state s) xs)

  unfoldable pub unshuffled : ℕ → List A → List A
  unshuffled s xs = unshuffled_first (length xs) s xs

-- 002, 4.5: the seed of the interleaving
abbrev pub interleaving_seed : ℕ
interleaving_seed = 226759
