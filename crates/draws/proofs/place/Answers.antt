-- `draws::place` meets its contract: the whole part that the code takes is that of the single-precision product, and the last rule
-- keeps the place below n. Assumes nothing.
use Rattle.std.proofs.Common.{◌≡◌, ◌*◌, ◌/◌, ◌^◌, ◌≤◌, sym, ◌∙◌, arith}
use Rattle.symbology.specs.Place.{raw_place}
use Rattle.laws.proofs.Place.{product_most, raw_whole, raw_le}
use Rattle.draws.proofs.LastRule.{place_top, place_other}
use Rattle.draws.proofs.place.Goals as goal
use Rattle.draws.proofs.place.Goals.{After-nearest_single, After-nearest_single-whole}

-- the product of the rounded draw and n is small
product_few : (c : After-nearest_single) → c.nearest_single.result * c.args.n ≤ c.args.n * 2 ^ 32
product_few c =
    rw c.nearest_single.ensures (product_most c.args.d c.args.n c.ranges.d.fits c.requires.1)

pub overflow_mul-nearest_single : goal.overflow_mul-nearest_single
overflow_mul-nearest_single c = omega (arith, product_few c)

pub nearest_single-whole-requires : goal.nearest_single-whole-requires
nearest_single-whole-requires c = omega (arith, product_few c)

-- the whole part that the code takes is that of the definition
is_raw : (c : After-nearest_single-whole)
    → c.nearest_single-whole.result / 2 ^ 32 ≡ raw_place c.args.d c.args.n
is_raw c =
    rw (c.nearest_single-whole.ensures, c.nearest_single.ensures)
    (sym (raw_whole c.args.d c.args.n c.ranges.d.fits c.requires.1))

pub returns-then-whole-n : goal.returns-then-whole-n
returns-then-whole-n c =
    let a = c.args in
    (sym (place_top a.d a.n (omega (arith, is_raw (goal.at.returns-then-whole-n c).After-nearest_single-whole))), omega arith)

pub returns-else-whole-n : goal.returns-else-whole-n
returns-else-whole-n c = (
  is_raw (goal.at.returns-else-whole-n c).After-nearest_single-whole
      ∙ sym (place_other c.args.d c.args.n (λ e. omega (arith, is_raw (goal.at.returns-else-whole-n c).After-nearest_single-whole))),
  omega (arith, is_raw (goal.at.returns-else-whole-n c).After-nearest_single-whole, raw_le c.args.d c.args.n c.ranges.d.fits c.requires.1),
)
