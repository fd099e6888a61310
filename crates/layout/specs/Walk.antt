-- The walk through the modules, column by column from the left, each downwards: what it asks for, and how far it has come. Columns
-- and rows count from 0.
-- Assumes nothing.
use Rattle.std.specs.Prelude.{ℕ, ◌*◌, ◌/◌, ◌%◌, ◌≤◌, ◌<◌, ◌≡◌, true, List, ◌⊎◌, length, get_or, take, Ok}
use Rattle.symbology.specs.declared.Params.{Params}
use Rattle.symbology.specs.Parameters.{in_range}
use Rattle.symbology.specs.Sides.{columns, rows}
use Rattle.symbology.specs.Reserved.{list_verdict}
use Rattle.symbology.specs.Placement.{rank, module_at}
use Rattle.symbology.specs.Capacity.{sizes_for}
use Rattle.laws.specs.Sampling.{taken}

-- parameters and list pass the tests 1 and 2, there are C bits, and the matrix has so many modules
pub record SizedSymbol (p : Params) (l : List ℕ) (bits modules : ℕ) : Type 0 where
  pub inside_range : in_range p ≡ true
  pub sound : list_verdict p l ≡ Ok tt
  pub all_bits : bits ≡ (sizes_for p l).capacity
  pub all_modules : modules ≡ rows p * columns p

-- The walk stands at the module (c, r) of a symbol, or below the last of column c, with k data modules before it.
pub record AtModule (p : Params) (l : List ℕ) (bits modules c r k : ℕ) : Type 0 where
  pub symbol : SizedSymbol p l bits modules
  pub column : c < columns p
  pub row : r ≤ rows p
  pub ranked : k ≡ rank p l c r

-- the module (x, y) comes before (c, r)
abbrev pub Before : ℕ → ℕ → ℕ → ℕ → Type 0
Before x y c r = (x < c) ⊎ ((x ≡ c) × (y < r))

-- each module of the matrix before (c, r) is that of the matrix filled with the bits
pub record FilledTo (p : Params) (l bs matrix : List ℕ) (c r : ℕ) : Type 0 where
  pub whole : length matrix ≡ rows p * columns p
  pub passed : (i : ℕ)
      → i < rows p * columns p
      → Before (i % columns p) (i / columns p) c r
      → get_or matrix i 0 ≡ module_at p l bs (i % columns p) (i / columns p)

-- the first bits of the list are those sampled before (c, r)
pub record SampledTo (p : Params) (l matrix out : List ℕ) (c r : ℕ) : Type 0 where
  pub whole : length out ≡ (sizes_for p l).capacity
  pub first : take (length (taken p l matrix c r)) out ≡ taken p l matrix c r
