-- What the answer on a column's pivot row tells of the column.
-- Assumes nothing.
use Prim.Native.Nat.{ℕ}
use mathlib.Core.Path.{◌≡◌}
use mathlib.Core.Bool.{Bool, true, false, not}
use mathlib.Core.List.{List}
use Rattle.std.specs.Prelude.{Option, None, Some, is_some}
use Rattle.lent.specs.declared.Areas.{Areas}
use Rattle.codeword.specs.Columns.{is_message, IsPivotRow}

module _ (a : Areas) (work : List ℕ) (c : ℕ) where
  -- there is none
  pub none_message : (row : Option ℕ) {none : Bool} → IsPivotRow a work c row → is_some row ≡ not none → none ≡ true
      → is_message a work c ≡ true
  none_message None p e t = p
  none_message (Some i) p e t = cc

  -- there is one
  pub some_check : (row : Option ℕ) {none : Bool} → IsPivotRow a work c row → is_some row ≡ not none → none ≡ false
      → is_message a work c ≡ false
  some_check None p e t = cc
  some_check (Some i) p e t = p.0
