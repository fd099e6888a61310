-- Ranks: how many data modules stand before a module, from one module to the next.
-- Assumes nothing.
use Prim.Native.Nat.{ℕ, suc, ◌+◌, ◌≤◌, ◌<◌}
use mathlib.Core.Path.{◌≡◌, refl, ap, ◌∙◌}
use mathlib.Core.Bool.{true}
use mathlib.Core.List.{List}
use native.Mathlib.Nat.{zero-add}
use native.Mathlib.Omega.{arith}
use Rattle.symbology.specs.declared.Params.{Params}
use Rattle.symbology.specs.Ranges.{tally, sum_from}
use Rattle.symbology.specs.Sides.{columns, rows}
use Rattle.symbology.specs.Placement.{cell_at, is_data, column_data, rank}
use Rattle.laws.proofs.Sums.{sum_snoc, sum_prefix}

-- ---- ranks

-- the data modules of the whole symbol
abbrev pub data_total : Params → List ℕ → ℕ
data_total p l = sum_from 0 (columns p) (column_data p l (rows p))

column_none : (p : Params) (l : List ℕ) (c : ℕ) → column_data p l 0 c ≡ 0
unfolding column_data sum_from
column_none p l c = refl

column_next : (p : Params) (l : List ℕ) (r c : ℕ) → column_data p l (suc r) c ≡ column_data p l r c + tally (is_data (cell_at p l c r))
unfolding column_data
column_next p l r c = sum_snoc (λ k. tally (is_data (cell_at p l c k))) 0 r ∙ rw (zero-add r)

column_prefix : (p : Params) (l : List ℕ) (m n c : ℕ) → m ≤ n → column_data p l m c ≤ column_data p l n c
unfolding column_data
column_prefix p l m n c h = sum_prefix (λ k. tally (is_data (cell_at p l c k))) 0 m n h

-- The first module has rank 0.
pub rank_first : (p : Params) (l : List ℕ) → rank p l 0 0 ≡ 0
unfolding rank column_data sum_from
rank_first p l = refl

-- The rank grows by one past a data module, and not past another.
pub rank_next : (p : Params) (l : List ℕ) (c r : ℕ) → rank p l c (suc r) ≡ rank p l c r + tally (is_data (cell_at p l c r))
unfolding rank
rank_next p l c r = omega (arith, column_next p l r c)

-- The rank past the last module of a column is that of the first module of the next.
pub rank_column : (p : Params) (l : List ℕ) (c : ℕ) → rank p l c (rows p) ≡ rank p l (suc c) 0
unfolding rank
rank_column p l c =
    let whole : sum_from 0 (suc c) (column_data p l (rows p)) ≡ sum_from 0 c (column_data p l (rows p)) + column_data p l (rows p) c
    = sum_snoc (column_data p l (rows p)) 0 c ∙ rw (zero-add c) in
    omega (arith, column_none p l (suc c))

-- The rank past the last module is the number of data modules.
pub rank_last : (p : Params) (l : List ℕ) → rank p l (columns p) 0 ≡ data_total p l
unfolding rank
rank_last p l = omega (arith, column_none p l (columns p))

-- ranks grow down a column, and from column to column
in_column : (p : Params) (l : List ℕ) (c m n : ℕ) → m ≤ n → rank p l c m ≤ rank p l c n
unfolding rank
in_column p l c m n h = omega (arith, column_prefix p l m n c h)

in_columns : (p : Params) (l : List ℕ) (c : ℕ) → c ≤ columns p → rank p l c 0 ≤ data_total p l
unfolding rank
in_columns p l c h = omega (arith, column_none p l c, sum_prefix (column_data p l (rows p)) 0 c (columns p) h)

-- No rank inside the symbol is more than the number of data modules.
pub rank_most : (p : Params) (l : List ℕ) (c r : ℕ) → c < columns p → r ≤ rows p → rank p l c r ≤ data_total p l
rank_most p l c r h k = omega (arith, in_column p l c r (rows p) k, rank_column p l c, in_columns p l (suc c) h)

-- A data module inside the symbol has a rank below the number of data modules.
pub rank_below : (p : Params) (l : List ℕ) (c r : ℕ) → c < columns p → r < rows p → is_data (cell_at p l c r) ≡ true
    → rank p l c r < data_total p l
rank_below p l c r h k e =
    let one : tally (is_data (cell_at p l c r)) ≡ 1 = ap tally e in
    omega (arith, rank_next p l c r, rank_most p l c (suc r) h k)
