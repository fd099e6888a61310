-- Document 01, "What the library takes in hand": the range of each parameter. Outside it the answer is 1.
-- Assumes nothing.
use Rattle.std.specs.Prelude.{Bool, not, ◌||◌, List, [], ◌∷◌, ltb, eqb}
use Rattle.symbology.specs.declared.Params.{Params}
use Rattle.symbology.specs.Ranges.{within, all_hold}

-- the range of each parameter, one test after the other; kind 0 is a primary symbol, 1 a secondary one
unfoldable pub range_tests : Params → List Bool
range_tests p =
    within 0 1 p.kind
    ∷ within 1 32 p.horizontal
    ∷ within 1 32 p.vertical
    ∷ (eqb p.colours 4 || eqb p.colours 8)
    ∷ ltb p.black p.colours
    ∷ ltb p.cyan p.colours
    ∷ ltb p.yellow p.colours
    ∷ not (eqb p.black p.cyan)
    ∷ not (eqb p.black p.yellow)
    ∷ not (eqb p.cyan p.yellow)
    ∷ within 3 8 p.wc
    ∷ within 4 9 p.wr
    ∷ ltb p.wc p.wr
    ∷ within 0 7 p.mask
    ∷ within 0 1 p.turn
    ∷ []

-- each parameter is in its range
unfoldable pub in_range : Params → Bool
in_range p = all_hold (range_tests p)
