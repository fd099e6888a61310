-- Parameters by their numbers, for examples.
-- Assumes nothing.
use Prim.Native.Nat.{ℕ}
use mathlib.Core.List.{List}
use lib.ListN.{get_or}
use Rattle.symbology.specs.declared.Params.{Params}

-- kind, horizontal and vertical side-version, colours, black, cyan, yellow, wc, wr, mask, turn
abbrev pub params_of : List ℕ → Params
params_of n =
    record {
      kind = get_or n 0 0;
      horizontal = get_or n 1 0;
      vertical = get_or n 2 0;
      colours = get_or n 3 0;
      black = get_or n 4 0;
      cyan = get_or n 5 0;
      yellow = get_or n 6 0;
      wc = get_or n 7 0;
      wr = get_or n 8 0;
      mask = get_or n 9 0;
      turn = get_or n 10 0;
    }
