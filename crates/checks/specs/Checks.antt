-- The checks in the work buffer, as judging and mending see them. Checks and bits count from 0.
-- Assumes nothing.
use Rattle.std.specs.Prelude.{ℕ, ◌≤◌, ◌<◌, ◌≡◌, true, false, List, [], ◌∷◌}
use Rattle.symbology.specs.Matrix.{BitMatrix, check_of, checks_of}
use Rattle.symbology.specs.Rule.{unmet}
use Rattle.lent.specs.declared.Areas.{Areas}
use Rattle.lent.specs.Changes.{Span, Changed}
use Rattle.lent.specs.Work.{rows_span, word_row_span, numbers_span, word_in}
use Rattle.dense.specs.Dense.{dense_bits, Packed}

-- the matrix in the buffer: bit j stands in check i
unfoldable pub stands_in : Areas → List ℕ → BitMatrix
stands_in a work i j = dense_bits work a.stride i j

-- the area that the checks lie in
abbrev pub checks_span : Areas → Span
checks_span a = rows_span a

-- the checks, each as the places of its bits
abbrev pub checks_in : Areas → List ℕ → List (List ℕ)
checks_in a work = checks_of a.checks a.gross (stands_in a work)

-- 1 where check i is unmet in the word, else 0
abbrev pub unmet_in : Areas → List ℕ → ℕ → ℕ
unmet_in a work i = unmet (check_of a.gross (stands_in a work) i) (word_in a work)

-- bit j stands in no check from `from` up to `to`
abbrev pub InNoCheck : Areas → List ℕ → ℕ → ℕ → ℕ → Type 0
InNoCheck a work j from to = (i : ℕ) → from ≤ i → i < to → stands_in a work i j ≡ false

-- check i is the first from `from` on that bit j stands in
pub record NextCheck (a : Areas) (work : List ℕ) (j from i : ℕ) : Type 0 where
  pub least : from ≤ i
  pub inside : i < a.checks
  pub there : stands_in a work i j ≡ true
  pub none_before : InNoCheck a work j from i

-- the checks are those of a matrix
abbrev pub HoldsChecks : Areas → BitMatrix → List ℕ → Type 0
HoldsChecks a m work = (i : ℕ) → i < a.checks → (j : ℕ) → j < a.gross → stands_in a work i j ≡ m i j

-- The checks of a matrix are stored; the numbers are scratch then: nothing is said of them. Nothing else is changed.
pub record ChecksBuilt (a : Areas) (m : BitMatrix) (before after : List ℕ) : Type 0 where
  pub changed : Changed (checks_span a ∷ numbers_span a ∷ []) before after
  pub holds : HoldsChecks a m after

-- the word stands as the row behind the rows too
abbrev pub Staged : Areas → List ℕ → Type 0
Staged a work = Packed a.stride a.checks a.word a.gross work

-- the word is stored so, and nothing else is changed
pub record WordStaged (a : Areas) (before after : List ℕ) : Type 0 where
  pub changed : Changed (word_row_span a ∷ []) before after
  pub staged : Staged a after
