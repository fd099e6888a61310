-- The two readings of Table 1 as one.
-- Assumes nothing.
use Prim.Native.Nat.{ℕ, ◌≤◌, ◌<◌}
use mathlib.Core.Path.{◌≡◌}
use Rattle.symbology.proofs.Published.{formula_modules, formula_bits}
use Rattle.tables.specs.Rows.{published_counts, formula_counts}

-- the published counts are those of the formulas
pub published_formula : (version c : ℕ) → 1 ≤ version → version ≤ 32 → c < 4 → published_counts version c ≡ formula_counts version c
unfolding published_counts formula_counts
published_formula version c least most inside =
    let modules = formula_modules version c least most inside in
    let bits = formula_bits version c least most inside in
    λ i. record { modules = record { 0 = modules i }; bits = record { 0 = bits i } }
