-- The cores of a padded row.
-- Assumes nothing.
use Prim.Native.Nat.{ℕ, ◌+◌, ◌-◌, ◌≤◌}
use mathlib.Core.Path.{◌≡◌}
use native.Mathlib.Omega.{arith}
use lib.ListN.{length, take, replicate}
use lib.Seq.{take-append-add, take-append_seam}
use Rattle.symbology.specs.Sides.{cores_of}
use Rattle.symbology.proofs.Sides.{cores_most}
use Rattle.tables.specs.declared.CoreRow.{CoreRow}
use Rattle.tables.specs.Rows.{core_row}

-- a row without its padding
pub row_cores : (version : ℕ)
    → 1 ≤ version
    → version ≤ 32
    → (row : CoreRow)
    → row ≡ core_row (cores_of version)
    → take row.len row.at ≡ cores_of version
row_cores version least most row e =
    let cores = cores_of version in
    let room = 9 - length cores in
    let fit : 9 ≡ length cores + room = omega (arith, cores_most version least most) in
    rw (e, fit, take-append-add cores (replicate 9 0) room, take-append_seam cores (take room (replicate 9 0)))
