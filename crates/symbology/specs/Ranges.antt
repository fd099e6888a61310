-- Tests, sums, searches and lists over ranges of numbers: the tools of the other definitions.
-- Assumes nothing.
use Rattle.std.specs.Prelude.{ℕ, zero, suc, ◌+◌, Bool, true, false, cond, ◌&&◌, ◌||◌, List, [], ◌∷◌, ◌++◌, leb, ltb, eqb}
use Rattle.std.specs.Prelude.{Option, Some, None}

-- low ≤ n ≤ high
abbrev pub within : ℕ → ℕ → ℕ → Bool
within low high n = leb low n && leb n high

-- 1 where the test holds, else 0
abbrev pub tally : Bool → ℕ
tally t = cond t 1 0

-- each test of the list holds
unfoldable pub all_hold : List Bool → Bool
all_hold [] = true
all_hold (t ∷ ts) = t && all_hold ts

-- the test holds at each number below n
unfoldable pub all_below : ℕ → (ℕ → Bool) → Bool
all_below zero f = true
all_below (suc n) f = all_below n f && f n

-- f a + f (a + 1) + .., n terms
unfoldable pub sum_from : ℕ → ℕ → (ℕ → ℕ) → ℕ
sum_from a zero f = 0
sum_from a (suc n) f = f a + sum_from (suc a) n f

-- f a ++ f (a + 1) ++ .., n lists
unfoldable pub join_from : {A : Type 0} → ℕ → ℕ → (ℕ → List A) → List A
join_from a zero f = []
join_from a (suc n) f = f a ++ join_from (suc a) n f

-- f 0, f 1, .., f (n - 1)
unfoldable pub tabulate : {A : Type 0} → ℕ → (ℕ → A) → List A
tabulate zero f = []
tabulate (suc n) f = tabulate n f ++ (f n ∷ [])

-- the numbers below n at which the test holds, ascending
unfoldable pub those : ℕ → (ℕ → Bool) → List ℕ
those zero f = []
those (suc n) f = those n f ++ cond (f n) (n ∷ []) []

-- the lowest of the n numbers j, j + 1, .. at which the test holds, and j + n where it holds at none
unfoldable pub lowest : (ℕ → Bool) → ℕ → ℕ → ℕ
lowest f zero j = j
lowest f (suc n) j =
    let later = lowest f n (suc j) in
    cond (f j) j later

-- what a search among the numbers below n found, where its answer is n if it found none
abbrev pub found : ℕ → ℕ → Option ℕ
found n k = cond (ltb k n) (Some k) None

-- the number stands in the list
unfoldable pub has : ℕ → List ℕ → Bool
has n [] = false
has n (x ∷ xs) = eqb n x || has n xs
