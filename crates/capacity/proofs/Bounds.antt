-- Bounds on the sizes of a symbol: they all fit their machine numbers.
-- Assumes nothing.
use Prim.Native.Nat.{ℕ, ◌+◌, ◌*◌, ◌/◌, ◌≤◌, ◌<◌}
use mathlib.Core.Path.{◌≡◌}
use mathlib.Core.Bool.{true}
use native.Mathlib.Nat.{mul-le-mul, mul-le-mul_left, div-mul-le_self}
use native.Mathlib.Omega.{arith}
use Rattle.symbology.specs.declared.Params.{Params}
use Rattle.symbology.specs.declared.Sizes.{Sizes}
use Rattle.symbology.specs.Parameters.{in_range}
use Rattle.symbology.specs.Capacity.{sizes_of}
use Rattle.laws.proofs.Parameters.{ranges}

-- a symbol has at most 145 modules along each side
pub area_most : (a b : ℕ) → a ≤ 145 → b ≤ 145 → a * b ≤ 21025
area_most a b p q = omega (arith, mul-le-mul p q)

-- a module has at most 3 bits
pub bits_most : (m depth : ℕ) → m ≤ 21025 → depth ≤ 3 → m * depth ≤ 63075
bits_most m depth p q = omega (arith, mul-le-mul p q)

-- the bytes of A, of C = c and of wc and wr
pub matrix_most : (c wc wr : ℕ) → c ≤ 63075 → wc < wr → c / wr * wc * ((c / wr * wr + 7) / 8) ≤ 497346375
matrix_most c wc wr few less =
    let t : ℕ = c / wr in
    let gross_most : t * wr ≤ 63075 = omega (arith, div-mul-le_self c wr) in
    let checks_less : t * wc ≤ t * wr = mul-le-mul_left t (omega arith) in
    let checks_most : t * wc ≤ 63075 = omega arith in
    let bytes : (t * wr + 7) / 8 ≤ 7885 = omega arith in
    mul-le-mul checks_most bytes

-- a symbol with parameters in range has at most 145 × 145 modules
pub area_small : (p : Params) (listed : ℕ) (s : Sizes) → in_range p ≡ true → s ≡ sizes_of p listed → s.columns * s.rows ≤ 21025
unfolding sizes_of
area_small p listed s range is =
    let r = ranges p range in
    let across : s.columns ≤ 145 = rw is (omega arith) in
    let down : s.rows ≤ 145 = rw is (omega arith) in
    area_most s.columns s.rows across down
