-- Document 01, "What the library takes in hand": the reserved list, three numbers to an entry (column, row, colour index), and
-- "Numbers returned": what makes it bad, and the place of its first fault. Columns and rows count from 1, entries from 0.
-- Assumes nothing.
use Rattle.std.specs.Prelude.{ℕ, ◌+◌, ◌*◌, ◌/◌, ◌%◌, Bool, cond, not, ◌&&◌, ◌||◌, List, length, get_or, leb, ltb, eqb, Result, Ok, Err}
use Rattle.symbology.specs.declared.Params.{Params}
use Rattle.symbology.specs.Ranges.{within, lowest}
use Rattle.symbology.specs.Sides.{columns, rows}
use Rattle.symbology.specs.Patterns.{pattern_colour, covered}

-- the whole entries of a list
abbrev pub entries : List ℕ → ℕ
entries l = length l / 3

-- the column of entry k, entries counted from 0
abbrev pub entry_column : List ℕ → ℕ → ℕ
entry_column l k = get_or l (3 * k) 0

-- its row
abbrev pub entry_row : List ℕ → ℕ → ℕ
entry_row l k = get_or l (3 * k + 1) 0

-- its colour index
abbrev pub entry_colour : List ℕ → ℕ → ℕ
entry_colour l k = get_or l (3 * k + 2) 0

-- entry k stands at column x, row y
unfoldable pub entry_at : List ℕ → ℕ → ℕ → ℕ → Bool
entry_at l x y k = eqb (entry_column l k) x && eqb (entry_row l k) y

-- the first of the n first entries that stands at column x, row y, and n where none does
unfoldable pub first_entry : List ℕ → ℕ → ℕ → ℕ → ℕ
first_entry l n x y = lowest (entry_at l x y) n 0

-- an entry k with these numbers lies outside the symbol, on a pattern, repeats the place of an earlier one, or has a colour of N or more
unfoldable pub bad_entry : Params → List ℕ → ℕ → ℕ → ℕ → ℕ → Bool
bad_entry p l k x y colour =
    not (within 1 (columns p) x)
    || not (within 1 (rows p) y)
    || covered (pattern_colour p x y)
    || ltb (first_entry l k x y) k
    || leb p.colours colour

-- the same of entry k itself
unfoldable pub bad_at : Params → List ℕ → ℕ → Bool
bad_at p l k = bad_entry p l k (entry_column l k) (entry_row l k) (entry_colour l k)

-- the verdict on n entries, Ok or the place of the first fault, where `place` is that of the first bad one, or n where none is bad
unfoldable pub entry_verdict : ℕ → ℕ → Result (Unit {0}) ℕ
entry_verdict place n = cond (ltb place n) (Err place) (Ok tt)

-- The list's verdict: a length that is no multiple of three, at the number of whole entries; more than 1,024 entries, at 1,024;
-- then the first bad entry.
unfoldable pub list_verdict : Params → List ℕ → Result (Unit {0}) ℕ
list_verdict p l =
    cond (eqb (length l % 3) 0)
    (cond (leb (entries l) 1024) (entry_verdict (lowest (bad_at p l) (entries l) 0) (entries l)) (Err 1024))
    (Err (entries l))

-- document 01's number for each verdict
unfoldable pub list_number : Result (Unit {0}) ℕ → ℕ
list_number (Ok sound) = 0
list_number (Err place) = 2

-- document 01's place for each verdict
unfoldable pub list_place : Result (Unit {0}) ℕ → ℕ
list_place (Ok sound) = 0
list_place (Err place) = place
