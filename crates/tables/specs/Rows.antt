-- Rows and numbers of Tables 1 and 2 as the code holds them.
-- Assumes nothing.
use Rattle.std.specs.Prelude.{ℕ, ◌+◌, ◌-◌, List, [], ◌++◌, length, get_or, take, replicate}
use Rattle.symbology.specs.Published.{table1, square_modules, square_bits}
use Rattle.tables.specs.declared.CoreRow.{CoreRow}
use Rattle.tables.specs.declared.SquareCounts.{SquareCounts}

-- core coordinates with their number, filled up with zeros to nine
abbrev pub core_row : List ℕ → CoreRow
core_row cores = record { len = length cores; at = take 9 (cores ++ replicate 9 0) }

-- Table 1's numbers for a side-version, by column: modules, and four columns on their bits
unfoldable pub published_counts : ℕ → ℕ → SquareCounts
published_counts version c =
    let row = get_or table1 (version - 1) [] in
    record { modules = record { 0 = get_or row c 0 }; bits = record { 0 = get_or row (c + 4) 0 } }

-- D and C by the formulas
unfoldable pub formula_counts : ℕ → ℕ → SquareCounts
formula_counts version c = record { modules = square_modules version c; bits = square_bits version c }
