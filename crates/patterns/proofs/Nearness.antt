-- The search for the core near a coordinate, one core after the other, the cores of a kept row of Table 2, and a module's colour.
-- Assumes nothing.
use Prim.Native.Nat.{ℕ, zero, suc, ◌+◌, ◌-◌, ◌≤◌, ◌<◌}
use mathlib.Core.Path.{◌≡◌, refl, ◌∙◌, ap}
use mathlib.Core.Bool.{Bool, true, false, cond, ◌&&◌}
use mathlib.Core.List.{List, [], ◌∷◌, ◌++◌}
use native.Mathlib.Numerals.{add-one}
use native.Mathlib.Omega.{arith}
use native.Mathlib.Decide.{dec_lt}
use lib.Dec.{leb}
use lib.ListN.{length, get_or, take, drop, replicate, drop_of_length-le, get_or-eq_default}
use lib.Seq.{drop-cons, take-take, take_at}
use Rattle.std.specs.Prelude.{Some, None}
use Rattle.symbology.specs.declared.Near.{Near}
use Rattle.symbology.specs.Sides.{core_table, cores_of}
use Rattle.symbology.specs.declared.Params.{Params}
use Rattle.symbology.specs.Patterns.{near_core, pattern_of, colour_in, meeting, pattern_at, pattern_colour}
use Rattle.symbology.proofs.Sides.{cores_most}
use Rattle.tables.specs.declared.CoreRow.{CoreRow}
use Rattle.tables.specs.Rows.{core_row}

-- ---- the search

-- whether a coordinate is near a core
abbrev pub near_test : ℕ → ℕ → Bool
near_test core x = leb core (x + 2) && leb x (core + 2)

module _ (cs : List ℕ) (x i core : ℕ) (inside : i < length cs) (is : core ≡ get_or cs i 0) where
  -- the coordinate is near the core number i
  pub near_found : near_test core x ≡ true → near_core i (drop i cs) x ≡ Some (record { core = i; offset = x + 2 - core })
  unfolding near_core
  near_found e = rw (drop-cons cs i 0 inside, ← is, e)

  -- it is not: the search goes on
  pub near_next : near_test core x ≡ false → near_core i (drop i cs) x ≡ near_core (i + 1) (drop (i + 1) cs) x
  unfolding near_core
  near_next e = rw (drop-cons cs i 0 inside, ← is, e, add-one i)

-- past the last core there is none
pub near_none : (cs : List ℕ) (x i : ℕ) → length cs ≤ i → near_core i (drop i cs) x ≡ None
unfolding near_core
near_none cs x i h = rw (drop_of_length-le cs h)

-- the number of a core that is near is one of theirs
pub near_number : (k : ℕ) (cs : List ℕ) (x : ℕ) (near : Near) → near_core k cs x ≡ Some near → near.core < k + length cs
unfolding near_core
near_number k [] x near e = cc
near_number k (c ∷ cs) x near e =
    go (near_test c x) (λ h. near_number (suc k) cs x near h) e
  where
    go : (t : Bool) → (near_core (suc k) cs x ≡ Some near → near.core < suc k + length cs)
        → cond t (Some (record { core = k; offset = x + 2 - c })) (near_core (suc k) cs x) ≡ Some near
        → near.core < k + suc (length cs)
    go true later h = let z : k ≡ near.core = cc in omega arith
    go false later h = omega (arith, later h)

-- ---- a kept row

-- no row of Table 2 has more than nine cores, and past the table there are none
pub cores_few : (v : ℕ) → length (cores_of v) ≤ 9
unfolding core_table cores_of
cores_few zero = cores_most 1 (omega arith) (omega arith)
cores_few (suc v) =
    elim (dec_lt 31 v) [
      | yes h ↦ rw (get_or-eq_default core_table [] {n = suc v - 1} (omega arith)) (omega arith)
      | no h ↦ cores_most (suc v) (omega arith) (omega arith)
    ]

-- the cores of a padded row
row_cores : (cs : List ℕ) → length cs ≤ 9 → take (core_row cs).len (core_row cs).at ≡ cs
row_cores cs h = take-take (length cs) 9 (cs ++ replicate 9 0) h ∙ take_at cs (replicate 9 0) (length cs) refl

-- how many cores a kept row has
pub kept_length : {row : CoreRow} (v : ℕ) → row ≡ core_row (cores_of v) → row.len ≡ length (cores_of v)
kept_length v is = rw is

-- the search among its first numbers is that among the cores
pub kept_search : {row : CoreRow} (v x : ℕ) {cores : List ℕ} → row ≡ core_row (cores_of v) → cores ≡ take row.len row.at
    → near_core 0 cores x ≡ near_core 0 (cores_of v) x
kept_search v x is e = rw (e, is) (ap (λ cs. near_core 0 cs x) (row_cores (cores_of v) (cores_few v)))

-- ---- the colour where a column and a row stand so to the cores

module _ (p : Params) (x y : ℕ) where
  -- the column is near no core
  pub no_column : near_core 0 (cores_of p.horizontal) x ≡ None → pattern_colour p x y ≡ None
  unfolding pattern_colour pattern_at meeting
  no_column e = rw e

  module _ (across : Near) (e : near_core 0 (cores_of p.horizontal) x ≡ Some across) where
    -- it is, and the row is near none
    pub no_row : near_core 0 (cores_of p.vertical) y ≡ None → pattern_colour p x y ≡ None
    unfolding pattern_colour pattern_at meeting
    no_row d = rw (e, d)

    -- both are near one: the pattern there gives the colour
    pub both_near : (down : Near) → near_core 0 (cores_of p.vertical) y ≡ Some down
        → pattern_colour p x y
        ≡ colour_in
        (pattern_of p.kind p.turn (length (cores_of p.horizontal)) (length (cores_of p.vertical)) across.core down.core)
        across.offset down.offset
    unfolding pattern_colour pattern_at meeting
    both_near down d = rw (e, d)
