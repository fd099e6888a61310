-- `Symbol::depth` meets its contract. Assumes nothing.
use native.Mathlib.Omega.{arith}
use Rattle.laws.proofs.Parameters.{ranges, depth_some}
use Rattle.layout.proofs.Symbol.depth.Goals as goal

pub returns : goal.returns
returns c =
    let s = c.args.self.now in
    let some = depth_some s.patterns.params.colours (ranges s.patterns.params s.inside_range).colours_are in
    (c.bits_per_module.ensures, omega (arith, c.bits_per_module.ensures, some))
