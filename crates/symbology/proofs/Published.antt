-- The formulas of D and C give all 256 numbers of Table 1, by one computed test.
-- Assumes nothing.
use Prim.Native.Nat.{ℕ, ◌+◌, ◌-◌, ◌≤◌, ◌<◌}
use mathlib.Core.Path.{◌≡◌, refl, subst}
use mathlib.Core.Bool.{Bool, true, ◌&&◌}
use mathlib.Core.List.{[]}
use native.Mathlib.Omega.{arith}
use lib.ListN.{get_or}
use lib.Dec.{eqb}
use borrow.Author.Tests.{eqb-true}
use Rattle.symbology.specs.Ranges.{all_below, lowest}
use Rattle.symbology.specs.Sides.{core_table, cores_of, inner_patterns}
use Rattle.symbology.specs.Capacity.{bits_per_module, pattern_modules, data_modules, as_bits}
use Rattle.symbology.specs.Published.{table1, table1_entries, square_modules, square_bits}
use Rattle.symbology.proofs.Ranges.{and_left, and_right, below_true}

-- the number of Table 1 in row k, counted from 0, and column c
abbrev pub published : ℕ → ℕ → ℕ
published k c = get_or (get_or table1 k []) c 0

-- row k has the number of modules, and of bits, that the formulas give for a side-version
abbrev modules_right : ℕ → ℕ → ℕ → Bool
modules_right k version c = eqb (published k c) (square_modules version c).0

abbrev bits_right : ℕ → ℕ → ℕ → Bool
bits_right k version c = eqb (published k (c + 4)) (square_bits version c).0

abbrev right : ℕ → ℕ → Bool
right k c = modules_right k (k + 1) c && bits_right k (k + 1) c

all_right : all_below 32 (λ k. all_below 4 (right k)) ≡ true
unfolding all_below lowest table1 table1_entries square_modules square_bits core_table cores_of inner_patterns bits_per_module
    pattern_modules data_modules as_bits
all_right = refl

module _ (version c : ℕ) (least : 1 ≤ version) (most : version ≤ 32) (inside : c < 4) where
  right_here : (modules_right (version - 1) version c && bits_right (version - 1) version c) ≡ true
  right_here =
      let k : ℕ = version - 1 in
      let next : k + 1 ≡ version = omega arith in
      subst (λ (v : ℕ). (modules_right k v c && bits_right k v c) ≡ true) next
      (below_true (right k) 4 (below_true (λ j. all_below 4 (right j)) 32 all_right k (omega arith)) c inside)

  -- D is the published number of modules
  pub formula_modules : published (version - 1) c ≡ (square_modules version c).0
  formula_modules =
      eqb-true (published (version - 1) c) (square_modules version c).0
      (and_left (modules_right (version - 1) version c) (bits_right (version - 1) version c) right_here)

  -- C is the published number of bits
  pub formula_bits : published (version - 1) (c + 4) ≡ (square_bits version c).0
  formula_bits =
      eqb-true (published (version - 1) (c + 4)) (square_bits version c).0
      (and_right (modules_right (version - 1) version c) (bits_right (version - 1) version c) right_here)
