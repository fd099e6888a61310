-- `Symbol::colour_index` meets its contract. Assumes nothing.
use native.Mathlib.Omega.{arith}
use Rattle.laws.proofs.Parameters.{ranges, some_colours}
use Rattle.layout.proofs.Symbol.colour_index.Goals as goal

pub overflow_cast-result : goal.overflow_cast-result
overflow_cast-result c =
    let s = c.args.self.now in
    let p = s.patterns.params in
    omega (arith, (ranges p s.inside_range).black_below, (some_colours p s.inside_range).1)

pub overflow_cast-result-in-Cyan : goal.overflow_cast-result-in-Cyan
overflow_cast-result-in-Cyan c =
    let s = c.args.self.now in
    let p = s.patterns.params in
    omega (arith, (ranges p s.inside_range).cyan_below, (some_colours p s.inside_range).1)

pub overflow_cast-result-in-Yellow : goal.overflow_cast-result-in-Yellow
overflow_cast-result-in-Yellow c =
    let s = c.args.self.now in
    let p = s.patterns.params in
    omega (arith, (ranges p s.inside_range).yellow_below, (some_colours p s.inside_range).1)
