-- How far the sampling of a matrix has come.
-- Assumes nothing.
use Rattle.std.specs.Prelude.{ℕ, List, ◌++◌}
use Rattle.symbology.specs.declared.Params.{Params}
use Rattle.symbology.specs.Ranges.{join_from}
use Rattle.symbology.specs.Sides.{rows}
use Rattle.symbology.specs.Placement.{bits_at}

-- the bits sampled before the module (c, r)
unfoldable pub taken : Params → List ℕ → List ℕ → ℕ → ℕ → List ℕ
taken p l matrix c r =
    join_from 0 c (λ x. join_from 0 (rows p) (λ y. bits_at p l matrix x y)) ++ join_from 0 r (λ y. bits_at p l matrix c y)
