-- `tables::square_counts` meets its contract: the constant is Table 1 as published, and the formulas give its numbers.
-- Assumes nothing.
use mathlib.Core.Path.{refl}
use Rattle.symbology.specs.Published.{table1}
use Rattle.tables.specs.Rows.{published_counts}
use Rattle.tables.proofs.Rows.{published_formula}
use Rattle.tables.proofs.square_counts.Goals as goal

pub returns : goal.returns
unfolding table1 published_counts
returns c =
    let v = c.args.version in
    let j = c.args.column in
    let pre = c.requires in
    (refl, published_formula v j pre.0 pre.1 pre.2)
