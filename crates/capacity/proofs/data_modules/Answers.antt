-- `capacity::data_modules` meets its contract. Assumes nothing.
use Prim.Native.Nat.{◌*◌, ◌≤◌}
use native.Mathlib.Omega.{arith}
use Rattle.symbology.specs.Capacity.{pattern_modules, data_modules}
use Rattle.laws.proofs.Parameters.{InRange, ranges}
use Rattle.capacity.proofs.Bounds.{area_most}
use Rattle.capacity.proofs.data_modules.Goals as goal
use Rattle.capacity.proofs.data_modules.Goals.{After-side_size-2, Start}

-- each parameter is in its range
known : (c : Start) → InRange c.args.p
known c = ranges c.args.p c.requires

-- a symbol has few modules
all_most : (c : After-side_size-2) → c.side_size.result * c.side_size-2.result ≤ 21025
all_most c =
    let r = known (goal.at.After-side_size-2 c).Start in
    let across = c.side_size in
    let down = c.side_size-2 in
    area_most across.result down.result (omega (arith, across.ensures)) (omega (arith, down.ensures))

pub overflow_mul-all : goal.overflow_mul-all
overflow_mul-all c = omega (arith, all_most c)

pub inner_patterns-inner-requires : goal.inner_patterns-inner-requires
inner_patterns-inner-requires c = omega (arith, known (goal.at.inner_patterns-inner-requires c).Start)

pub overflow_cast-result : goal.overflow_cast-result
overflow_cast-result c = omega (arith, all_most (goal.at.overflow_cast-result c).After-side_size-2)

pub returns : goal.returns
unfolding pattern_modules data_modules
returns c = (cc, omega (arith, all_most (goal.at.returns c).After-side_size-2))
