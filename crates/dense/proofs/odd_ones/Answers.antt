-- `dense::odd_ones` meets its contract: looked up for every byte. Assumes nothing.
use Rattle.dense.proofs.Dense.{odd_count}
use Rattle.dense.proofs.odd_ones.Goals as goal

pub returns : goal.returns
returns c = odd_count c.args.x c.ranges.x.fits
