-- `Symbol::columns` meets its contract. Assumes nothing.
use native.Mathlib.Omega.{arith}
use Rattle.laws.proofs.Parameters.{ranges}
use Rattle.layout.proofs.Symbol.columns.Goals as goal

pub returns : goal.returns
returns c =
    let s = c.args.self.now in
    (c.side_size.ensures, omega (arith, (ranges s.patterns.params s.inside_range).horizontal_most, c.side_size.ensures))
