-- Document 01, "Modules": side sizes and core coordinates, counted from 1; 000, 4.3.5 and Table 2.
-- Assumes nothing.
use Rattle.std.specs.Prelude.{ℕ, ◌+◌, ◌-◌, ◌*◌, List, [], ◌∷◌, length, get_or}
use Rattle.symbology.specs.declared.Params.{Params}

-- 000, 4.3.5: the modules along a side of a side-version
abbrev pub side_size : ℕ → ℕ
side_size v = 17 + 4 * v

-- the columns of a symbol
abbrev pub columns : Params → ℕ
columns p = side_size p.horizontal

-- the rows of a symbol
abbrev pub rows : Params → ℕ
rows p = side_size p.vertical

-- 000, Table 2: the coordinates of the core modules of the side-versions 1 to 32
unfoldable pub core_table : List (List ℕ)
core_table =
    (4 ∷ 18 ∷ [])
    ∷ (4 ∷ 22 ∷ [])
    ∷ (4 ∷ 26 ∷ [])
    ∷ (4 ∷ 30 ∷ [])
    ∷ (4 ∷ 34 ∷ [])
    ∷ (4 ∷ 17 ∷ 38 ∷ [])
    ∷ (4 ∷ 20 ∷ 42 ∷ [])
    ∷ (4 ∷ 23 ∷ 46 ∷ [])
    ∷ (4 ∷ 26 ∷ 50 ∷ [])
    ∷ (4 ∷ 14 ∷ 32 ∷ 54 ∷ [])
    ∷ (4 ∷ 17 ∷ 39 ∷ 58 ∷ [])
    ∷ (4 ∷ 20 ∷ 46 ∷ 62 ∷ [])
    ∷ (4 ∷ 23 ∷ 44 ∷ 66 ∷ [])
    ∷ (4 ∷ 26 ∷ 37 ∷ 51 ∷ 70 ∷ [])
    ∷ (4 ∷ 14 ∷ 36 ∷ 58 ∷ 74 ∷ [])
    ∷ (4 ∷ 17 ∷ 39 ∷ 56 ∷ 78 ∷ [])
    ∷ (4 ∷ 20 ∷ 42 ∷ 63 ∷ 82 ∷ [])
    ∷ (4 ∷ 23 ∷ 38 ∷ 54 ∷ 70 ∷ 86 ∷ [])
    ∷ (4 ∷ 26 ∷ 38 ∷ 56 ∷ 77 ∷ 90 ∷ [])
    ∷ (4 ∷ 14 ∷ 33 ∷ 53 ∷ 72 ∷ 94 ∷ [])
    ∷ (4 ∷ 17 ∷ 38 ∷ 59 ∷ 79 ∷ 98 ∷ [])
    ∷ (4 ∷ 20 ∷ 36 ∷ 53 ∷ 70 ∷ 86 ∷ 102 ∷ [])
    ∷ (4 ∷ 23 ∷ 36 ∷ 55 ∷ 74 ∷ 93 ∷ 106 ∷ [])
    ∷ (4 ∷ 26 ∷ 36 ∷ 58 ∷ 79 ∷ 100 ∷ 110 ∷ [])
    ∷ (4 ∷ 14 ∷ 36 ∷ 58 ∷ 80 ∷ 92 ∷ 114 ∷ [])
    ∷ (4 ∷ 17 ∷ 34 ∷ 52 ∷ 70 ∷ 88 ∷ 99 ∷ 118 ∷ [])
    ∷ (4 ∷ 20 ∷ 37 ∷ 54 ∷ 72 ∷ 89 ∷ 106 ∷ 122 ∷ [])
    ∷ (4 ∷ 23 ∷ 38 ∷ 56 ∷ 74 ∷ 92 ∷ 113 ∷ 126 ∷ [])
    ∷ (4 ∷ 26 ∷ 36 ∷ 58 ∷ 78 ∷ 98 ∷ 120 ∷ 130 ∷ [])
    ∷ (4 ∷ 14 ∷ 32 ∷ 49 ∷ 67 ∷ 84 ∷ 102 ∷ 112 ∷ 134 ∷ [])
    ∷ (4 ∷ 17 ∷ 35 ∷ 53 ∷ 71 ∷ 89 ∷ 107 ∷ 119 ∷ 138 ∷ [])
    ∷ (4 ∷ 20 ∷ 38 ∷ 55 ∷ 73 ∷ 91 ∷ 108 ∷ 126 ∷ 142 ∷ [])
    ∷ []

-- the core coordinates of a side-version from 1 to 32; test 1 shuts the others out
unfoldable pub cores_of : ℕ → List ℕ
cores_of v = get_or core_table (v - 1) []

-- p × q − 4: the inner patterns of a symbol with p core coordinates across and q down
unfoldable pub inner_patterns : ℕ → ℕ → ℕ
inner_patterns h v = length (cores_of h) * length (cores_of v) - 4
