-- `tables::core_row` meets its contract: the constant is Table 2, mapped to padded rows, and past it there is no row.
-- Assumes nothing.
use mathlib.Core.List.{[]}
use Prim.Native.Nat.{ℕ}
use mathlib.Core.Path.{◌∙◌, ap}
use native.Mathlib.Omega.{arith}
use lib.ListN.{get_or, get_or-eq_default}
use Rattle.std.proofs.lemmas.List.{get_or-map}
use Rattle.symbology.specs.Sides.{core_table, cores_of}
use Rattle.tables.specs.Rows.{core_row}
use Rattle.tables.proofs.core_row.Goals as goal

pub returns-then-row-lt32 : goal.returns-then-row-lt32
unfolding core_table cores_of
returns-then-row-lt32 c =
    let r = c.saturating_sub-row in
    get_or-map core_row core_table r.result [] (record { len = 0; at = [] }) (omega arith)
    ∙ ap (λ (k : ℕ). core_row (get_or core_table k [])) r.ensures

pub returns : goal.returns
unfolding core_table cores_of
returns c =
    let r = c.saturating_sub-row in
    rw (← r.ensures, get_or-eq_default core_table [] {n = r.result} (omega arith))
