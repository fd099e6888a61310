-- `tables::inner_patterns` meets its contract. Assumes nothing.
use Prim.Native.Nat.{ℕ, ◌*◌, ◌-◌, ◌≤◌}
use mathlib.Core.Path.{◌≡◌, ◌∙◌, ap, ap₂}
use native.Mathlib.Omega.{arith}
use native.Mathlib.Nat.{mul-le-mul}
use lib.ListN.{length}
use Rattle.symbology.specs.Sides.{cores_of, inner_patterns}
use Rattle.symbology.proofs.Sides.{cores_least, cores_most}
use Rattle.tables.proofs.Cores.{row_cores}
use Rattle.tables.proofs.inner_patterns.Goals as goal
use Rattle.tables.proofs.inner_patterns.Goals.{After-cores-2}

-- how many cores there are across and down
across_are : (c : After-cores-2) → length c.cores.result.now ≡ length (cores_of c.args.horizontal)
across_are c =
    let row = c.core_row-across in
    ap length (c.cores.ensures ∙ row_cores c.args.horizontal c.requires.0 c.requires.1 row.result row.ensures)

down_are : (c : After-cores-2) → length c.cores-2.result.now ≡ length (cores_of c.args.vertical)
down_are c =
    let row = c.core_row-down in
    ap length (c.cores-2.ensures ∙ row_cores c.args.vertical c.requires.2 c.requires.3 row.result row.ensures)

-- 2 to 9 of each
few : (c : After-cores-2)
    → let across = length c.cores.result.now in
    let down = length c.cores-2.result.now in
    (2 ≤ across) × (across ≤ 9) × (2 ≤ down) × (down ≤ 9)
few c =
    let across = cores_least c.args.horizontal c.requires.0 c.requires.1 in
    let across_most = cores_most c.args.horizontal c.requires.0 c.requires.1 in
    let down = cores_least c.args.vertical c.requires.2 c.requires.3 in
    let down_most = cores_most c.args.vertical c.requires.2 c.requires.3 in
    omega (arith, across_are c, down_are c)

pub overflow_mul-result : goal.overflow_mul-result
overflow_mul-result c = omega (arith, mul-le-mul (few c).1 (few c).3)

pub overflow_sub-result : goal.overflow_sub-result
overflow_sub-result c = omega (arith, mul-le-mul (few c).0 (few c).2)

pub returns : goal.returns
unfolding inner_patterns
returns c = (ap₂ (λ (m n : ℕ). m * n - 4) (across_are c) (down_are c), omega (arith, mul-le-mul (few c).1 (few c).3))
