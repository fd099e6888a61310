-- Document 01, "Bits": the check matrix A; 002, 4.4.3. Rows and columns count from 0.
-- Assumes nothing.
use Rattle.std.specs.Prelude.{ℕ, zero, suc, ◌+◌, ◌*◌, ◌/◌, ◌%◌, Bool, List, get_or, eqb}
use Rattle.symbology.specs.Ranges.{tabulate, those}
use Rattle.symbology.specs.Generator.{state_after}
use Rattle.symbology.specs.Shuffle.{shuffled}

-- a matrix of bits: row, then column
abbrev pub BitMatrix : Type 0
BitMatrix = ℕ → ℕ → Bool

-- the seed for message data
abbrev pub matrix_seed : ℕ
matrix_seed = 785465

-- Which column of A0 stands at each of the gross columns of block k, blocks counted from 1. Each block shuffles the columns of the
-- block before, the first those of A0, and the generator runs on from the seed.
unfoldable pub column_order : ℕ → ℕ → ℕ → List ℕ
column_order seed gross zero = tabulate gross (λ j. j)
column_order seed gross (suc k) = shuffled 0 (state_after (k * gross) seed) (column_order seed gross k)

-- Steps 1 and 2. Row r of A0 has its wr ones in the columns r × wr and on, so column c has its 1 in row c div wr. Row i of A is
-- row i mod t of block i div t + 1.
unfoldable pub matrix_a : ℕ → ℕ → ℕ → BitMatrix
matrix_a seed t wr i =
    let order = column_order seed (t * wr) (i / t + 1) in
    λ j. eqb (get_or order j 0 / wr) (i % t)

-- the check of a row: the columns of its ones, ascending
unfoldable pub check_of : ℕ → BitMatrix → ℕ → List ℕ
check_of gross a i = those gross (a i)

-- the checks of the first k rows
unfoldable pub checks_of : ℕ → ℕ → BitMatrix → List (List ℕ)
checks_of k gross a = tabulate k (check_of gross a)
