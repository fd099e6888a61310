-- Test 1 in three groups, each a part of the list of its tests.
-- Assumes nothing.
use Rattle.std.specs.Prelude.{Bool, List, take, drop}
use Rattle.symbology.specs.declared.Params.{Params}
use Rattle.symbology.specs.Parameters.{range_tests}

-- kind and side-versions
abbrev pub side_tests : Params → List Bool
side_tests p = take 3 (range_tests p)

-- the number of colours and the three colour indices
abbrev pub colour_tests : Params → List Bool
colour_tests p = take 7 (drop 3 (range_tests p))

-- wc, wr, mask and turn
abbrev pub code_tests : Params → List Bool
code_tests p = drop 10 (range_tests p)
