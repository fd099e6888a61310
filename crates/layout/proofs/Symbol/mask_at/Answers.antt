-- `Symbol::mask_at` meets its contract. Assumes nothing.
use Prim.Native.Nat.{ℕ, ◌%◌}
use mathlib.Core.Path.{◌≡◌, ap}
use native.Mathlib.Omega.{arith}
use Rattle.symbology.specs.Placement.{mask_at}
use Rattle.laws.proofs.Parameters.{some_colours}
use Rattle.layout.proofs.Masks.{mask_byte}
use Rattle.layout.proofs.Symbol.mask_at.Goals as goal
use Rattle.layout.proofs.Symbol.mask_at.Goals.{After-mask_generator}

pub nonzero_rem-result : goal.nonzero_rem-result
nonzero_rem-result c = (some_colours c.args.self.now.patterns.params c.args.self.now.inside_range).0

-- the remainder is the mask's colour index
mask_is : (c : After-mask_generator)
    → let p = c.args.self.now.patterns.params in
    c.mask_generator.result % p.colours ≡ mask_at p.mask p.colours c.args.c c.args.r
unfolding mask_at
mask_is c = ap (λ (n : ℕ). n % c.args.self.now.patterns.params.colours) c.mask_generator.ensures

pub overflow_cast-result : goal.overflow_cast-result
overflow_cast-result c =
    let s = c.args.self.now in
    let is = mask_is (goal.at.overflow_cast-result c).After-mask_generator in
    omega (arith, is, mask_byte s.patterns.params c.args.c c.args.r s.inside_range)

pub returns : goal.returns
returns c = mask_is (goal.at.returns c).After-mask_generator
