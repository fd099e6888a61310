use Rattle.capacity.proofs.Depth.{depth_next, depth_found, depth_none}
use Rattle.capacity.proofs.bits_per_module.Goals as goal

pub returns-then-colours-depth : goal.returns-then-colours-depth
returns-then-colours-depth c = depth_found c.args.colours c.loop-depth.invariant c.loop-depth-test.true c.if-colours-depth.true

pub loop-depth-preserved : goal.loop-depth-preserved
loop-depth-preserved c = depth_next c.args.colours c.loop-depth.invariant c.loop-depth-test.true c.if-colours-depth.false

pub returns : goal.returns
returns c = depth_none c.args.colours c.loop-depth.invariant c.loop-depth-test.false
