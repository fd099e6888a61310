-- `Symbol::index_of` meets its contract. Assumes nothing.
use Prim.Native.Nat.{◌+◌, ◌*◌, ◌≤◌, ◌<◌}
use native.Mathlib.Nat.{mul-le-mul}
use native.Mathlib.Omega.{arith}
use lib.Arith.{digits_lt}
use Rattle.symbology.specs.Sides.{rows}
use Rattle.laws.proofs.Parameters.{ranges}
use Rattle.layout.proofs.Symbol.index_of.Goals as goal
use Rattle.layout.proofs.Symbol.index_of.Goals.{After-columns}

-- the index lies in the matrix
inside : (c : After-columns)
    → let a = c.args in
    a.r * c.columns.result + a.c < rows a.self.now.patterns.params * c.columns.result
inside c = digits_lt c.requires.1 (omega (arith, c.requires.0, c.columns.ensures.0))

-- which has at most 145 × 145 modules
few : (c : After-columns) → rows c.args.self.now.patterns.params * c.columns.result ≤ 145 * 145
few c =
    let s = c.args.self.now in
    let most : rows s.patterns.params ≤ 145 = omega (arith, (ranges s.patterns.params s.inside_range).vertical_most) in
    mul-le-mul most c.columns.ensures.1

pub overflow_mul-result : goal.overflow_mul-result
overflow_mul-result c = omega (arith, inside c, few c)

pub overflow_add-result : goal.overflow_add-result
overflow_add-result c = omega (arith, inside c, few c)

pub returns-clause-inside : goal.returns-clause-inside
returns-clause-inside c = rw (← c.columns.ensures.0) (inside c)
