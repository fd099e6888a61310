-- Table 2: the cores of a side are 2 to 9, the first at 4, at least 10 apart, and the five coordinates around each lie within the side.
-- One computed test over the 32 rows.
-- Assumes nothing.
use Prim.Native.Nat.{ℕ, ◌+◌, ◌-◌, ◌≤◌, ◌<◌}
use mathlib.Core.Path.{◌≡◌, refl, subst}
use mathlib.Core.Bool.{Bool, true, ◌&&◌}
use mathlib.Core.List.{List, [], ◌∷◌}
use native.Mathlib.Omega.{arith}
use lib.Dec.{leb, eqb}
use lib.ListN.{length, get_or}
use borrow.Author.Tests.{leb-true, eqb-true}
use Rattle.symbology.specs.Ranges.{within, all_below}
use Rattle.symbology.specs.Sides.{side_size, core_table, cores_of}
use Rattle.symbology.proofs.Ranges.{and_left, and_right, below_true}

-- the windows of five around the cores follow one another from coordinate a on and end before coordinate e
abbrev pub spaced : ℕ → ℕ → List ℕ → Bool
spaced a e [] = leb a e
spaced a e (c ∷ cs) = leb (a + 2) c && spaced (c + 3) e cs

-- ---- the test

-- the core number i lies at least 10 before the core number j
abbrev wide : List ℕ → ℕ → ℕ → Bool
wide cs j i = leb (get_or cs i 0 + 10) (get_or cs j 0)

abbrev all_wide : List ℕ → Bool
all_wide cs = all_below (length cs) (λ j. all_below j (wide cs j))

-- the core number i lies inside a side of so many modules, with its window
abbrev inside : ℕ → List ℕ → ℕ → Bool
inside size cs i = within 3 (size - 2) (get_or cs i 0)

abbrev all_inside : ℕ → List ℕ → Bool
all_inside size cs = all_below (length cs) (inside size cs)

abbrev fits : ℕ → List ℕ → Bool
fits size cs = spaced 1 (1 + size) cs && (within 2 9 (length cs) && (all_wide cs && (all_inside size cs && eqb (get_or cs 0 0) 4)))

all_fit : all_below 32 (λ k. fits (side_size (k + 1)) (cores_of (k + 1))) ≡ true
unfolding all_below core_table cores_of
all_fit = refl

-- ---- what it says of a side-version

module _ (v : ℕ) (least : 1 ≤ v) (most : v ≤ 32) where
  here : fits (side_size v) (cores_of v) ≡ true
  here =
      let next : v - 1 + 1 ≡ v = omega arith in
      let before : v - 1 < 32 = omega arith in
      subst (λ (w : ℕ). fits (side_size w) (cores_of w) ≡ true) next
      (below_true (λ k. fits (side_size (k + 1)) (cores_of (k + 1))) 32 all_fit (v - 1) before)

  -- the windows of five around the cores do not meet and lie within the side
  pub cores_spaced : spaced 1 (1 + side_size v) (cores_of v) ≡ true
  cores_spaced =
      let size : ℕ = side_size v in
      let cs : List ℕ = cores_of v in
      and_left (spaced 1 (1 + size) cs) (within 2 9 (length cs) && (all_wide cs && (all_inside size cs && eqb (get_or cs 0 0) 4))) here

  from_number : (within 2 9 (length (cores_of v))
      && (all_wide (cores_of v) && (all_inside (side_size v) (cores_of v) && eqb (get_or (cores_of v) 0 0) 4))) ≡ true
  from_number =
      let size : ℕ = side_size v in
      let cs : List ℕ = cores_of v in
      and_right (spaced 1 (1 + size) cs) (within 2 9 (length cs) && (all_wide cs && (all_inside size cs && eqb (get_or cs 0 0) 4))) here

  number : within 2 9 (length (cores_of v)) ≡ true
  number =
      let cs : List ℕ = cores_of v in
      and_left (within 2 9 (length cs)) (all_wide cs && (all_inside (side_size v) cs && eqb (get_or cs 0 0) 4)) from_number

  from_apart : (all_wide (cores_of v) && (all_inside (side_size v) (cores_of v) && eqb (get_or (cores_of v) 0 0) 4)) ≡ true
  from_apart =
      let cs : List ℕ = cores_of v in
      and_right (within 2 9 (length cs)) (all_wide cs && (all_inside (side_size v) cs && eqb (get_or cs 0 0) 4)) from_number

  from_inside : (all_inside (side_size v) (cores_of v) && eqb (get_or (cores_of v) 0 0) 4) ≡ true
  from_inside = and_right (all_wide (cores_of v)) (all_inside (side_size v) (cores_of v) && eqb (get_or (cores_of v) 0 0) 4) from_apart

  -- a side has at least 2 cores
  pub cores_least : 2 ≤ length (cores_of v)
  cores_least =
      let n : ℕ = length (cores_of v) in
      leb-true 2 n (and_left (leb 2 n) (leb n 9) number)

  -- a side has at most 9 cores
  pub cores_most : length (cores_of v) ≤ 9
  cores_most =
      let n : ℕ = length (cores_of v) in
      leb-true n 9 (and_right (leb 2 n) (leb n 9) number)

  -- the first core is at 4
  pub core_first : get_or (cores_of v) 0 0 ≡ 4
  core_first =
      eqb-true (get_or (cores_of v) 0 0) 4 (and_right (all_inside (side_size v) (cores_of v)) (eqb (get_or (cores_of v) 0 0) 4) from_inside)

  -- two cores of a side are at least 10 apart
  pub cores_apart : (i j : ℕ) → i < j → j < length (cores_of v) → get_or (cores_of v) i 0 + 10 ≤ get_or (cores_of v) j 0
  cores_apart i j before inner =
      let cs : List ℕ = cores_of v in
      leb-true (get_or cs i 0 + 10) (get_or cs j 0)
      (below_true (wide cs j) j
      (below_true (λ n. all_below n (wide cs n)) (length cs)
      (and_left (all_wide cs) (all_inside (side_size v) cs && eqb (get_or cs 0 0) 4) from_apart) j inner)
      i before)

  core_inside : (i : ℕ) → i < length (cores_of v) → inside (side_size v) (cores_of v) i ≡ true
  core_inside i inner =
      let cs : List ℕ = cores_of v in
      below_true (inside (side_size v) cs) (length cs) (and_left (all_inside (side_size v) cs) (eqb (get_or cs 0 0) 4) from_inside) i inner

  -- two modules lie before each core
  pub core_least : (i : ℕ) → i < length (cores_of v) → 3 ≤ get_or (cores_of v) i 0
  core_least i inner =
      let c : ℕ = get_or (cores_of v) i 0 in
      leb-true 3 c (and_left (leb 3 c) (leb c (side_size v - 2)) (core_inside i inner))

  -- two modules lie behind each core
  pub core_most : (i : ℕ) → i < length (cores_of v) → get_or (cores_of v) i 0 + 2 ≤ side_size v
  core_most i inner =
      let c : ℕ = get_or (cores_of v) i 0 in
      let low : c ≤ side_size v - 2 = leb-true c (side_size v - 2) (and_right (leb 3 c) (leb c (side_size v - 2)) (core_inside i inner)) in
      omega arith
