-- `draws::nearest_single` meets its contract: the shifts lose no digit that counts, and the carry rounds the moved number.
-- Assumes nothing.
use Rattle.std.proofs.Common.{◌≡◌, ◌+◌, ◌-◌, ◌*◌, arith}
use lib.Count.{count_leading_zeros}
use lib.Ieee.{size}
use Rattle.draws.proofs.Rounding.{zeros_are, moved_below, moved_whole, rounded_moved}
use Rattle.draws.proofs.nearest_single.Goals as goal
use Rattle.draws.proofs.nearest_single.Goals.{Start}

-- how far the digits are moved
up_is : (c : Start) → count_leading_zeros 64 (2 * c.args.x + 1) ≡ 63 - size c.args.x
up_is c = zeros_are c.args.x c.requires

pub overflow_cast-moved : goal.overflow_cast-moved
overflow_cast-moved c = omega (arith, up_is c)

pub overflow_shl-moved : goal.overflow_shl-moved
overflow_shl-moved c = omega (arith, up_is c)

pub overflow_add-result : goal.overflow_add-result
overflow_add-result c =
    let up = count_leading_zeros 64 (2 * c.args.x + 1) in
    rw (moved_whole c.args.x c.requires up (up_is c)) (omega (arith, moved_below c.args.x c.requires up (up_is c)))

pub overflow_cast-result : goal.overflow_cast-result
overflow_cast-result c = omega (arith, up_is c)

pub overflow_shr-result-2 : goal.overflow_shr-result-2
overflow_shr-result-2 c = omega (arith, up_is c)

pub returns : goal.returns
returns c =
    let up = count_leading_zeros 64 (2 * c.args.x + 1) in
    rw (moved_whole c.args.x c.requires up (up_is c)) (rounded_moved c.args.x c.requires up (up_is c))
