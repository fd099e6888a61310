-- `capacity::sizes_of` meets its contract. Assumes nothing.
use Prim.Native.Nat.{◌*◌, ◌/◌, ◌≤◌}
use mathlib.Core.Path.{◌≡◌, ap}
use native.Mathlib.Omega.{arith}
use Rattle.symbology.specs.declared.Bits.{Bits}
use Rattle.symbology.specs.Capacity.{as_bits, capacity, row_bytes, sizes_of}
use Rattle.laws.proofs.Parameters.{InRange, ranges, depth_some}
use Rattle.capacity.proofs.Bounds.{bits_most, matrix_most}
use Rattle.capacity.proofs.sizes_of.Goals as goal
use Rattle.capacity.proofs.sizes_of.Goals.{After-bits_per_module-depth, After-as_bits-bits, After-div_ceil, Start}

-- each parameter is in its range
known : (c : Start) → InRange c.args.p
known c = ranges c.args.p c.requires

-- a module has few bits
depth_most : (c : After-bits_per_module-depth) → c.bits_per_module-depth.result ≤ 3
depth_most c =
    let p = c.args.p in
    omega (arith, c.bits_per_module-depth.ensures, depth_some p.colours (known (goal.at.After-bits_per_module-depth c).Start).colours_are)

pub as_bits-bits-requires : goal.as_bits-bits-requires
as_bits-bits-requires c = (c.data_modules.ensures.1, depth_most (goal.at.as_bits-bits-requires c).After-bits_per_module-depth)

-- the bytes of a row of A
row_bytes_are : (c : After-div_ceil) → c.div_ceil.result ≡ row_bytes (c.as_bits-bits.result.0 / c.args.p.wr * c.args.p.wr)
row_bytes_are c = omega (arith, c.div_ceil.ensures)

-- the bytes of A are few
matrix_few : (c : After-div_ceil) → c.as_bits-bits.result.0 / c.args.p.wr * c.args.p.wc * c.div_ceil.result ≤ 497346375
unfolding as_bits
matrix_few c =
    let p = c.args.p in
    let m = c.data_modules in
    let d = c.bits_per_module-depth in
    let most = bits_most m.result.0 d.result m.ensures.1 (depth_most (goal.at.After-div_ceil c).After-bits_per_module-depth) in
    let same : c.as_bits-bits.result.0 ≡ m.result.0 * d.result = ap (λ (b : Bits). b.0) c.as_bits-bits.ensures in
    rw (row_bytes_are c)
    (matrix_most c.as_bits-bits.result.0 p.wc p.wr (omega arith) (known (goal.at.After-div_ceil c).Start).wc_below)

pub nonzero_div-block : goal.nonzero_div-block
nonzero_div-block c = omega (arith, known (goal.at.nonzero_div-block c).Start)

pub overflow_sub-result : goal.overflow_sub-result
overflow_sub-result c = omega (arith, known (goal.at.overflow_sub-result c).Start)

pub overflow_mul-result-2 : goal.overflow_mul-result-2
overflow_mul-result-2 c = omega (arith, matrix_few (goal.at.overflow_mul-result-2 c).After-div_ceil)

pub overflow_add-result : goal.overflow_add-result
overflow_add-result c = omega (arith, matrix_few (goal.at.overflow_add-result c).After-div_ceil)

pub returns : goal.returns
unfolding capacity sizes_of
returns c =
    let row = row_bytes_are c in
    cc
