-- The work buffer in an elimination.
-- Assumes nothing.
use Rattle.std.specs.Prelude.{ℕ, ◌+◌, ◌*◌, ◌≤◌, ◌<◌, ◌≡◌, Bool, false, not, ◌&&◌, List, [], ◌∷◌, Option, MatchOption, ltb, eqb, get_or}
use Rattle.std.specs.Bool.{xor}
use Rattle.symbology.specs.Ranges.{lowest}
use Rattle.symbology.specs.Matrix.{BitMatrix}
use Rattle.symbology.specs.Codeword.{is_check_column}
use Rattle.laws.specs.Elimination.{Inv}
use Rattle.lent.specs.declared.Areas.{Areas}
use Rattle.lent.specs.Changes.{Changed}
use Rattle.lent.specs.Buffer.{number_at}
use Rattle.lent.specs.Work.{rows_span, marks_span, numbers_span}
use Rattle.dense.specs.Dense.{dense_bits}

-- row i has no mark
abbrev pub is_unmarked : Areas → List ℕ → ℕ → Bool
is_unmarked a work i = eqb (get_or work (a.marks + i) 0) 0

-- row i has no mark and has a 1 in column j
abbrev pub is_free : Areas → List ℕ → ℕ → ℕ → Bool
is_free a work j i = is_unmarked a work i && dense_bits work a.stride i j

-- row i is the pivot row of a check column
abbrev pub is_used : Areas → List ℕ → ℕ → Bool
is_used a work i = not (is_unmarked a work i)

-- the row is the first one that passes the test, and there is none where none passes
abbrev pub IsFirstRow : Areas → (ℕ → Bool) → Option ℕ → Type 0
IsFirstRow a test row =
    MatchOption row (lowest test a.checks 0 ≡ a.checks) (λ i. (i ≡ lowest test a.checks 0) × (i < a.checks))

-- the pivot row of column c, or the number of rows
abbrev pub row_of : Areas → List ℕ → ℕ → ℕ
row_of a work c = number_at work (a.numbers + 2 * c)

-- the rows before `end` have marks
abbrev pub MarkedBefore : Areas → List ℕ → ℕ → Type 0
MarkedBefore a work end = (i : ℕ) → i < end → is_unmarked a work i ≡ false

-- row i is 0 behind column j
abbrev pub EndsAt : Areas → List ℕ → ℕ → ℕ → Type 0
EndsAt a work i j = (c : ℕ) → j < c → c < a.gross → dense_bits work a.stride i c ≡ false

-- the row `pivot` is added to row i: a later row without a mark that has a 1 in column j
abbrev pub is_added : Areas → List ℕ → ℕ → ℕ → ℕ → Bool
is_added a work pivot j i = ltb pivot i && is_free a work j i

-- the row `pivot` is added to the rows that it is to be added to
pub record ColumnCleared (a : Areas) (pivot j : ℕ) (before after : List ℕ) : Type 0 where
  pub changed : Changed (rows_span a ∷ []) before after
  pub bits : (i : ℕ)
      → i < a.checks
      → (c : ℕ)
      → c < a.gross
      → dense_bits after a.stride i c
      ≡ xor (dense_bits before a.stride i c) (is_added a before pivot j i && dense_bits before a.stride pivot c)

-- The columns from j on of the matrix m are eliminated in the buffer. A column from j on has a pivot row exactly where it is a check
-- column of m, and the number of rows where it is none; a mark is 1 for a pivot row and 0 else. The papers leave open which row is the
-- pivot row of a check column, what the rows become and what stands past the last column: of these it is said what solving needs,
-- `Inv`.
pub record EliminatedFrom (a : Areas) (m : BitMatrix) (j : ℕ) (work : List ℕ) : Type 0 where
  pub reduced : Inv a.checks a.gross m (is_check_column a.checks a.gross m)
      (dense_bits work a.stride) (is_used a work) (row_of a work) j
  pub judged : (c : ℕ) → j ≤ c → c < a.gross → ltb (row_of a work c) a.checks ≡ is_check_column a.checks a.gross m c
  pub most : (c : ℕ) → j ≤ c → c < a.gross → row_of a work c ≤ a.checks
  pub marks : (i : ℕ) → i < a.checks → get_or work (a.marks + i) 0 ≤ 1

-- All columns of the matrix in the buffer are eliminated; only rows, marks and numbers are changed.
pub record Eliminated (a : Areas) (before after : List ℕ) : Type 0 where
  pub changed : Changed (rows_span a ∷ marks_span a ∷ numbers_span a ∷ []) before after
  pub whole : EliminatedFrom a (dense_bits before a.stride) 0 after

-- the buffer holds the elimination of some matrix
pub record HoldsElimination (a : Areas) (work : List ℕ) : Type 0 where
  pub matrix : BitMatrix
  pub whole : EliminatedFrom a matrix 0 work
