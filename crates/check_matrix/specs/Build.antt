-- The dense rows of A as they are built.
-- Assumes nothing.
use Rattle.std.specs.Prelude.{ℕ, ◌+◌, ◌/◌, ◌≤◌, ◌<◌, ◌≡◌, false, List, [], ◌∷◌, eqb, get_or}
use Rattle.std.specs.Bool.{xor}
use Rattle.symbology.specs.Matrix.{matrix_seed, column_order, matrix_a}
use Rattle.lent.specs.declared.Areas.{Areas}
use Rattle.lent.specs.Changes.{Changed}
use Rattle.lent.specs.Buffer.{numbers_at}
use Rattle.lent.specs.Work.{rows_span}
use Rattle.dense.specs.Dense.{dense_bits}
use Rattle.checks.specs.Checks.{ChecksBuilt}

-- each number of a column order leads to a row of the matrix
pub record BlockFits (a : Areas) (wr first : ℕ) (work : List ℕ) : Type 0 where
  pub some : 0 < wr
  pub inside : (j : ℕ) → j < a.gross → first + get_or (numbers_at work a.numbers a.gross) j 0 / wr < a.checks

-- For each column the bit in one row of the block that begins with row `first` is turned: that in which A0 has its 1 in the column
-- whose number stands there.
pub record BlockTurned (a : Areas) (wr first : ℕ) (before after : List ℕ) : Type 0 where
  pub changed : Changed (rows_span a ∷ []) before after
  pub bits : (i : ℕ)
      → i < a.checks
      → (j : ℕ)
      → j < a.gross
      → dense_bits after a.stride i j
      ≡ xor (dense_bits before a.stride i j) (eqb i (first + get_or (numbers_at before a.numbers a.gross) j 0 / wr))
  pub past : (i j : ℕ) → a.gross ≤ j → j / 8 < a.stride → dense_bits after a.stride i j ≡ dense_bits before a.stride i j

-- The checks are those of A. Their rows have zeros past the last column, and the numbers are the column order of the last block. Nothing
-- else is changed.
pub record Built (a : Areas) (t wc wr : ℕ) (before after : List ℕ) : Type 0 where
  pub built : ChecksBuilt a (matrix_a matrix_seed t wr) before after
  pub past : (i : ℕ) → i < a.checks → (j : ℕ) → a.gross ≤ j → j / 8 < a.stride → dense_bits after a.stride i j ≡ false
  pub order : numbers_at after a.numbers a.gross ≡ column_order matrix_seed a.gross wc
