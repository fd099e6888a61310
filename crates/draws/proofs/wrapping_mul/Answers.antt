-- `draws::wrapping_mul` meets its contract: the products of halves fit, and their sum is the product without its carry.
-- Assumes nothing.
use Rattle.std.proofs.Common.{shr_lt}
use lib.Bits.{and_mask, mask_lt}
use mir.Facts.{Fits-bits}
use Rattle.draws.proofs.Products.{product_lt, wrapped}
use Rattle.draws.proofs.wrapping_mul.Goals as goal

pub overflow_mul-cross : goal.overflow_mul-cross
overflow_mul-cross c = Fits-bits 64 tt (product_lt (shr_lt 32 32 c.ranges.x.fits) (mask_lt c.args.y 32))

pub overflow_mul-cross-2 : goal.overflow_mul-cross-2
overflow_mul-cross-2 c = Fits-bits 64 tt (product_lt (mask_lt c.args.x 32) (shr_lt 32 32 c.ranges.y.fits))

pub overflow_mul-result : goal.overflow_mul-result
overflow_mul-result c = Fits-bits 64 tt (product_lt (mask_lt c.args.x 32) (mask_lt c.args.y 32))

pub returns : goal.returns
returns c = rw (and_mask c.args.x 32, and_mask c.args.y 32) (wrapped c.args.x c.args.y)
